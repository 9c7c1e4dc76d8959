use Rattle.std.proofs.Common.{◌≡◌, ◌+◌, ◌-◌, ◌^◌, ◌<◌, ◌≤◌, ◌⊎◌, inl, inr, List, [], ◌∷◌, ◌++◌, length, take, true, false, subst, sym, ap, refl, ◌∙◌, arith}
use Rattle.std.specs.Prelude.{flat_map, position}
use Rattle.std.proofs.lemmas.Bool.{and_left, and_right}
use Rattle.std.proofs.lemmas.List.{get_or_default, take_all}
use Rattle.std.proofs.lemmas.List.Quantifiers.{position-Some}
use Rattle.reo_growth.specs.declared.web.Automaton.{Automaton}
use Rattle.reo_growth.specs.declared.marks.Mark.TheVariants.{Absent}
use Rattle.reo_growth.specs.Lists.{Among}
use Rattle.reo_growth.specs.Web.{links_of}
use Rattle.reo_growth.specs.Growth.{Vertex, agrees, fits, with_link, grown}
use Rattle.reo_growth.specs.Marks.{AreBelow, NoneOpenBefore, is_open_mark}
use Rattle.reo_growth.specs.Found.{Went, WentOver, ranked, fired_places, rows_of}
use Rattle.reo_growth.specs.Sound.{widened}
use Rattle.reo_growth.proofs.ListLemmas.{among_at}
use Rattle.reo_growth.proofs.MarkLemmas.{names_at, links_at, own_below}
use Rattle.reo_growth.proofs.OpenLemmas.{first_before}
use Rattle.reo_growth.proofs.TrailLemmas.{none_changed, more_changed}
use Rattle.reo_growth.proofs.WentLemmas.{room_for_one, stopped, from_more, from_front}
use Rattle.reo_growth.proofs.EngineLemmas.{goes_complete, goes_no_further, goes_on, agrees_said, fits_said, long_still, marks_still, no_child, one_child, child_sound, extended_is}
use Rattle.reo_growth.proofs.engine.+growth.Goals as goal

pub grow-returns-then-found-eq0-clause-went : goal.grow-returns-then-found-eq0-clause-went
grow-returns-then-found-eq0-clause-went t c = λ v sound are. let one = room_for_one c.args.ground.now.web c.args.root c.args.left v in omega arith

pub grow-returns-in_default-clause-went : goal.grow-returns-in_default-clause-went
grow-returns-in_default-clause-went t c = λ v sound are.
    goes_complete c.args.ground.now.web c.requires.ground.is_web c.args.root v c.args.marking.now are c.args.left c.args.found.now c.keep.new.self
    (c.in_default.ensures ∙ ap (position is_open_mark) c.as_slice.ensures.value)
    (let r = c.in_ok-keep.ensures.room in omega arith) c.in_ok-keep.ensures.count
    (subst (λ names. c.keep.new.self.count ≤ 4096 → rows_of c.keep.new.self ≡ rows_of c.args.found.now ++ ranked (length names) (fired_places names) ∷ []) c.as_slice-in_default.ensures.value c.in_ok-keep.ensures.rows)

pub grow-returns-then-left-eq0-clause-went : goal.grow-returns-then-left-eq0-clause-went
grow-returns-then-left-eq0-clause-went t c = λ v sound are.
    let end : (c.args.left ≡ 0) ⊎ (c.in-Some.x < c.args.root) = elim c.then-left-eq0.either [ inl none ↦ inl none | inr less ↦ inr less.1 ] in
    goes_no_further c.args.ground.now.web c.requires.ground.is_web c.args.root v c.args.marking.now are
    c.args.left c.in-Some.x c.args.found.now (record c.args.found.now { room = c.args.found.now.room - 1 })
    (c.in-Some.ensures ∙ ap (position is_open_mark) c.as_slice.ensures.value) (omega arith) refl refl end

pub grow-returns-clause-went : goal.grow-returns-clause-went
grow-returns-clause-went t c = λ v sound are.
    goes_on c.args.ground.now.web c.requires.ground.is_web c.args.root v c.args.marking.now are
    c.args.left (c.args.left - 1) c.in-Some.x c.args.found.now (record c.args.found.now { room = c.args.found.now.room - 1 }) c.widen.new.found c.widen.result sound
    (c.in-Some.ensures ∙ ap (position is_open_mark) c.as_slice.ensures.value) (omega arith) refl refl c.if-x-root.false
    (let some = c.if-left-eq0.false in omega arith)
    (λ ready. c.widen.ensures.went v ready are)

pub grow-widen-requires : goal.grow-widen-requires
grow-widen-requires t c =
    let marks = c.args.marking.now.automata.marks.items in
    let p = position-Some is_open_mark marks c.in-Some.x Absent (sym (c.in-Some.ensures ∙ ap (position is_open_mark) c.as_slice.ensures.value)) in
    let within : c.in-Some.x < length c.args.ground.now.web.automata = omega (arith, p.0, c.requires.long.automata) in
    let before : NoneOpenBefore c.in-Some.x marks = first_before marks c.in-Some.x p.2 in
    let some = c.if-left-eq0.false in
    let room : c.args.found.now.count + (c.args.found.now.room - 1) < 2 ^ 32 = omega (arith, c.requires.room) in
    (omega (arith, c.decreases), (c.requires.ground, (within, (c.requires.long, (before, room)))))

pub grow_child-agrees-requires : goal.grow_child-agrees-requires
grow_child-agrees-requires t c =
    let w = c.args.ground.now.web in
    let names = names_at w c.args.x c.as_slice.result.now c.index-as_slice-x.result c.requires.within c.as_slice.ensures ∙ sym c.as_slice-names.ensures in
    let long : length c.as_slice-2.result.now ≡ w.names = ap length c.as_slice-2.ensures.value ∙ c.requires.long.names in
    subst (λ n. AreBelow n c.as_slice-names.result.now) (sym long) (subst (AreBelow w.names) names (own_below w c.requires.ground.is_web c.args.x))

pub grow_child-returns-then-not-agrees-clause-went : goal.grow_child-returns-then-not-agrees-clause-went
grow_child-returns-then-not-agrees-clause-went t c = λ v ready are.
    let w = c.args.ground.now.web in
    let names = names_at w c.args.x c.as_slice.result.now c.index-as_slice-x.result c.requires.within c.as_slice.ensures ∙ sym c.as_slice-names.ensures in
    let agree : agrees w v c.args.x c.args.link.now ≡ false = agrees_said w c.requires.ground.is_web c.args.root v c.args.x c.args.link.now c.as_slice-names.result.now _ c.agrees.result ready (c.as_slice-2.ensures.value ∙ are.names) names c.agrees.ensures ∙ c.if-not-agrees.true in
    no_child w c.args.root c.args.left v c.args.x c.args.link.now c.args.found.now (and_left (agrees w v c.args.x c.args.link.now) (fits w (with_link v c.args.x c.args.link.now)) agree)

pub grow_child-returns-then-not-fits-clause-went : goal.grow_child-returns-then-not-fits-clause-went
grow_child-returns-then-not-fits-clause-went t c = λ v ready are.
    let w = c.args.ground.now.web in
    let wide = with_link v c.args.x c.args.link.now in
    let fit : fits w wide ≡ false = fits_said w c.requires.ground.is_web c.args.root v c.args.x c.args.link.now c.as_slice-3.result.now c.as_slice-4.result.now c.args.ground.now.partners c.fits.result ready c.requires.its (c.as_slice-3.ensures.value ∙ are.names) c.requires.ground.joined c.as_slice-4.ensures c.fits.ensures ∙ c.if-not-fits.true in
    no_child w c.args.root c.args.left v c.args.x c.args.link.now c.args.found.now (and_right (agrees w v c.args.x c.args.link.now) (fits w wide) fit)

pub grow_child-undo-requires : goal.grow_child-undo-requires
grow_child-undo-requires t c = record {
  before = c.args.marking.now.automata;
  so_many = omega (arith, c.len-opened.ensures);
  undoes = more_changed c.args.marking.now.automata c.enter.new.marking.automata c.grow.new.marking.automata c.in_ok-from.ensures.automata
      (none_changed c.enter.new.marking.automata c.grow.new.marking.automata c.in_ok-within.ensures.marking.automata);
}

pub grow_child-undo-requires-2 : goal.grow_child-undo-requires-2
grow_child-undo-requires-2 t c = record {
  before = c.args.marking.now.names;
  so_many = omega (arith, c.len-named.ensures);
  undoes = more_changed c.args.marking.now.names c.enter.new.marking.names c.grow.new.marking.names c.in_ok-from.ensures.names
      (none_changed c.enter.new.marking.names c.grow.new.marking.names c.in_ok-within.ensures.marking.names);
}

pub grow_child-returns-clause-went : goal.grow_child-returns-clause-went
grow_child-returns-clause-went t c = λ v ready are.
    let w = c.args.ground.now.web in
    let x = c.args.x in
    let link = c.args.link.now in
    let wide = with_link v x link in
    let names = names_at w x c.as_slice.result.now c.index-as_slice-x.result c.requires.within c.as_slice.ensures ∙ sym c.as_slice-names.ensures in
    let agree : agrees w v x link ≡ true = agrees_said w c.requires.ground.is_web c.args.root v x link c.as_slice-names.result.now _ c.agrees.result ready (c.as_slice-2.ensures.value ∙ are.names) names c.agrees.ensures ∙ c.if-not-agrees.false in
    let fit : fits w wide ≡ true = fits_said w c.requires.ground.is_web c.args.root v x link c.as_slice-3.result.now c.as_slice-4.result.now c.args.ground.now.partners c.fits.result ready c.requires.its (c.as_slice-3.ensures.value ∙ are.names) c.requires.ground.joined c.as_slice-4.ensures c.fits.ensures ∙ c.if-not-fits.false in
    one_child w c.args.root c.args.left v x link c.args.found.now c.grow.new.found _ agree fit
    (c.in_ok-within.ensures.went wide (child_sound w c.args.root v x link ready c.requires.its agree fit) (c.in_ok-from.ensures.entered v are))

pub widen-returns-clause-went : goal.widen-returns-clause-went
widen-returns-clause-went t c = λ v ready are.
    let w = c.args.ground.now.web in
    let links = links_at w c.args.x c.as_slice.result.now c.index-as_slice-x.result c.requires.within c.as_slice.ensures ∙ sym (c.as_slice-link-items.ensures ∙ ap (λ (a : Automaton). a.links) c.index-as_slice-x.is) in
    let whole : take c.loop-link.link-index c.as_slice-link-items.result.now ≡ links_of w c.args.x = take_all c.loop-link.link-index c.as_slice-link-items.result.now c.loop-link-test.false ∙ sym links in
    subst (λ list. WentOver w (flat_map (grown w c.args.root c.args.left) list) c.args.found.now c.loop-link.found)
    (ap (widened w v c.args.x) whole ∙ sym (extended_is w v c.args.x)) (c.loop-link.invariant.went v ready are)

pub widen-returns-then-not-branch-clause-went : goal.widen-returns-then-not-branch-clause-went
widen-returns-then-not-branch-clause-went t c = λ v ready are.
    let w = c.args.ground.now.web in
    let x = c.args.x in
    let f : Vertex → List Vertex = grown w c.args.root c.args.left in
    let items = c.as_slice-link-items.result.now in
    let i = c.loop-link.link-index in
    let links = links_at w x c.as_slice.result.now c.index-as_slice-x.result c.requires.within c.as_slice.ensures ∙ sym (c.as_slice-link-items.ensures ∙ ap (λ (a : Automaton). a.links) c.index-as_slice-x.is) in
    let link = c.as_slice-in-loop-link.ensures ∙ c.link-item.is ∙ get_or_default items i _ [] c.loop-link-test.true in
    let now = marks_still w v c.args.marking.now c.loop-link.marking are c.loop-link.invariant.same in
    let over = subst (Went w (flat_map f (widened w v x (c.as_slice-in-loop-link.result.now ∷ []))) c.loop-link.found c.grow_child.new.found) c.if-not-branch.true (c.in_ok-grow_child.ensures.went v ready now) in
    let more = stopped w (flat_map f (widened w v x (take i items))) (flat_map f (widened w v x (c.as_slice-in-loop-link.result.now ∷ []))) c.args.found.now c.loop-link.found (c.loop-link.invariant.went v ready are) over in
    let front = ap length (from_more w v x f items i c.as_slice-in-loop-link.result.now c.loop-link-test.true link) in
    let all = from_front w v x f items (i + 1) in
    let whole = ap (λ list. length (flat_map f list)) (extended_is w v x ∙ ap (widened w v x) links) in
    omega arith

pub widen-grow_child-requires : goal.widen-grow_child-requires
widen-grow_child-requires t c =
    let w = c.args.ground.now.web in
    let links = links_at w c.args.x c.as_slice.result.now c.index-as_slice-x.result c.requires.within c.as_slice.ensures ∙ sym (c.as_slice-link-items.ensures ∙ ap (λ (a : Automaton). a.links) c.index-as_slice-x.is) in
    let its : Among c.as_slice-in-loop-link.result.now (links_of w c.args.x) =
    subst (Among c.as_slice-in-loop-link.result.now) (sym links)
    (subst (λ link. Among link c.as_slice-link-items.result.now) (sym (c.as_slice-in-loop-link.ensures ∙ c.link-item.is)) (among_at c.as_slice-link-items.result.now c.loop-link.link-index _ c.loop-link-test.true)) in
    let same = c.loop-link.invariant.same in
    let long = long_still w c.args.marking.now c.loop-link.marking c.requires.long same in
    let before = subst (NoneOpenBefore c.args.x) same.automata.marks c.requires.before in
    let room : c.loop-link.found.count + c.loop-link.found.room < 2 ^ 32 = omega (arith, c.loop-link.invariant.room, c.requires.room) in
    (omega (arith, c.decreases), (c.requires.ground, (c.requires.within, (its, (long, (before, room))))))
