-- The steps of the search, over plain lists.
use Rattle.std.proofs.Common.{◌≡◌, ℕ, ◌+◌, ◌<◌, ◌≤◌, List, [], ◌∷◌, ◌++◌, length, get_or, Bool, true, false, not, ◌&&◌, ◌||◌, Option, Some, None, is_some, Result, Ok, Err, IfOk, refl, sym, ◌∙◌, ap, subst, cond, ◌⊎◌, inl, inr, append-nil}
use Rattle.std.specs.Prelude.{position, flat_map}
use Rattle.std.specs.declared.alloc.AllocError.{AllocError}
use Rattle.std.specs.List.{list_all}
use Rattle.std.proofs.lemmas.Bool.{false≢true, and_from, le-ltb}
use Rattle.reo_growth.specs.declared.found.Found.{Found}
use Rattle.reo_growth.specs.declared.marks.Mark.{Mark}
use Rattle.reo_growth.specs.declared.marks.Mark.TheVariants.{Unknown}
use Rattle.reo_growth.specs.declared.web.Web.{Web}
use Rattle.reo_growth.specs.Lists.{has, Among}
use Rattle.reo_growth.specs.Web.{names_of, links_of, IsWeb}
use Rattle.reo_growth.specs.Growth.{Vertex, fired, known, same, agrees, agrees_as_one, fits, least_open, with_link, extended, children_at, grown, is_complete}
use Rattle.reo_growth.specs.Marks.{allows, is_open_mark, is_free, holders_at, name_marks}
use Rattle.reo_growth.specs.Ground.{AreLong, AreMarksOf, ArePartners, AreUnchanged}
use Rattle.reo_growth.specs.declared.trail.Marking.{Marking}
use Rattle.reo_growth.specs.Found.{rows_of, ranked, fired_places, row_of_vertex, WentOver, Went}
use Rattle.reo_growth.specs.Sound.{IsSound, IsReady, widened}
use Rattle.reo_growth.proofs.VertexLemmas.{fired_gives, extended_from}
use Rattle.reo_growth.proofs.SoundLemmas.{sound_child, sound_first}
use Rattle.reo_growth.proofs.AgreeLemmas.{agrees_is, known_from}
use Rattle.reo_growth.proofs.MarkLemmas.{length-automaton_marks, length-name_marks}
use Rattle.reo_growth.proofs.ReadLemmas.{first_open_is, fired_places_are, agrees_read, fits_read}
use Rattle.reo_growth.proofs.WentLemmas.{went_none, went_on, complete_vertex, open_vertex, grown_alone, grown_below, grown_zero, grown_on, widened_no, widened_yes}

pub if_ok : {A : Type 0} (P Q : A → Type 0) → ((a : A) → P a → Q a) → (r : Result A AllocError) → IfOk r P → IfOk r Q
if_ok P Q h (Ok a) p = h a p
if_ok P Q h (Err e) p = p

module _ (w : Web) (is_web : IsWeb w) (root : ℕ) (v : Vertex) where
  pub ready_of : (x : ℕ) → IsSound w root v → least_open w v ≡ Some x → root ≤ x → IsReady w root v x
  unfolding children_at
  ready_of x sound is above = record {
    children = λ u at. sound_child w is_web root v u sound (subst (λ o. Among u (children_at w root v o)) (sym is) (subst (λ b. Among u (cond b [] (extended w v x))) (sym (le-ltb x root above)) at));
    agree = λ link. agrees_is w v x link root is_web sound;
    knows = λ name fires. let f = fired_gives v name fires in known_from w v f.0 name f.1 (is_web.own f.0.automaton f.0.fires (sound.its f.0 f.1) name f.2);
    fit = sound.fit;
  }

  module _ (marking : Marking) (are : AreMarksOf w v marking) where
    abbrev front : List Mark
    front = marking.automata.marks.items

    abbrev back : List Mark
    back = marking.names.marks.items

    least_is : (o : Option ℕ) → o ≡ position is_open_mark front → least_open w v ≡ o
    least_is o at = sym (at ∙ first_open_is w v front are.automata)

    pub goes_complete : (left : ℕ) (old new : Found) → None ≡ position is_open_mark front → new.room + 1 ≡ old.room → new.count ≡ old.count + 1
        → (new.count ≤ 4096 → rows_of new ≡ rows_of old ++ ranked (length back) (fired_places back) ∷ []) → WentOver w (grown w root left v) old new
    unfolding is_complete
    goes_complete left old new first room count rows =
        let none = least_is None first in
        let row : ranked (length back) (fired_places back) ≡ row_of_vertex w v =
        ap (λ n. ranked n (fired_places back)) (ap length are.names ∙ length-name_marks w v) ∙ ap (ranked w.names) (fired_places_are w v back are.names) in
        subst (λ list. WentOver w list old new) (sym (grown_alone w root left v none))
        (complete_vertex w v (ap (λ o. not (is_some o)) none) old new room count (λ few. rows few ∙ ap (λ r. rows_of old ++ r ∷ []) row))

    is_not_complete : (x : ℕ) → least_open w v ≡ Some x → is_complete w v ≡ false
    unfolding is_complete
    is_not_complete x is = ap (λ o. not (is_some o)) is

    pub goes_no_further : (left x : ℕ) (old new : Found) → Some x ≡ position is_open_mark front → new.room + 1 ≡ old.room → new.count ≡ old.count → rows_of new ≡ rows_of old
        → (left ≡ 0) ⊎ (x < root) → WentOver w (grown w root left v) old new
    goes_no_further left x old new first room count rows end =
        let some = least_is (Some x) first in
        let one = open_vertex w v (is_not_complete x some) old new room count rows in
        subst (λ list. WentOver w list old new) (sym (alone end some)) one
      where
        alone : (left ≡ 0) ⊎ (x < root) → least_open w v ≡ Some x → grown w root left v ≡ v ∷ []
        alone (inl zero_left) some = ap (λ n. grown w root n v) zero_left ∙ grown_zero w root v
        alone (inr less) some = grown_below w root left x v some less

    pub goes_on : (left less x : ℕ) (old middle new : Found) (r : Result Bool AllocError) → IsSound w root v → Some x ≡ position is_open_mark front → middle.room + 1 ≡ old.room → middle.count ≡ old.count → rows_of middle ≡ rows_of old
        → root ≤ x → left ≡ less + 1 → (IsReady w root v x → IfOk r (Went w (flat_map (grown w root less) (extended w v x)) middle new)) → IfOk r (Went w (grown w root left v) old new)
    goes_on left less x old middle new r sound first room count rows above more rest =
        let some = least_is (Some x) first in
        let one = open_vertex w v (is_not_complete x some) old middle room count rows in
        let below : List Vertex = flat_map (grown w root less) (extended w v x) in
        subst (λ list. IfOk r (Went w list old new)) (sym (grown_on w root left less x v some above more))
        (if_ok (Went w below middle new) (Went w (v ∷ below) old new) (λ within went. went_on w (v ∷ []) below old middle new within one went) r (rest (ready_of x sound some above)))

pub no_child : (w : Web) (root left : ℕ) (v : Vertex) (x : ℕ) (link : List ℕ) (found : Found) → (agrees w v x link && fits w (with_link v x link)) ≡ false
    → WentOver w (flat_map (grown w root left) (widened w v x (link ∷ []))) found found
no_child w root left v x link found is = subst (λ list. WentOver w (flat_map (grown w root left) list) found found) (sym (widened_no w v x link is)) (went_none w found)

pub one_child : (w : Web) (root left : ℕ) (v : Vertex) (x : ℕ) (link : List ℕ) (old new : Found) (within : Bool) → agrees w v x link ≡ true → fits w (with_link v x link) ≡ true
    → Went w (grown w root left (with_link v x link)) old new within → Went w (flat_map (grown w root left) (widened w v x (link ∷ []))) old new within
one_child w root left v x link old new within agree fit went =
    subst (λ list. Went w list old new within)
    (sym (append-nil (grown w root left (with_link v x link))) ∙ ap (flat_map (grown w root left)) (sym (widened_yes w v x link (and_from (agrees w v x link) (fits w (with_link v x link)) agree fit)))) went

-- the list that a link makes is sound
pub child_sound : (w : Web) (root : ℕ) (v : Vertex) (x : ℕ) (link : List ℕ) → IsReady w root v x → Among link (links_of w x) → agrees w v x link ≡ true → fits w (with_link v x link) ≡ true → IsSound w root (with_link v x link)
child_sound w root v x link ready its agree fit = ready.children (with_link v x link) (extended_from w v x link its agree fit)

pub extended_is : (w : Web) (v : Vertex) (x : ℕ) → extended w v x ≡ widened w v x (links_of w x)
unfolding extended
extended_is w v x = refl

pub agrees_said : (w : Web) → IsWeb w → (root : ℕ) (v : Vertex) (x : ℕ) (link names : List ℕ) (marks : List Mark) (said : Bool) → IsReady w root v x → marks ≡ name_marks w v → names_of w x ≡ names
    → said ≡ list_all (λ name. allows (get_or marks name Unknown) (has link name)) names → agrees w v x link ≡ said
agrees_said w is_web root v x link names marks said ready is are told = ready.agree link ∙ sym (agrees_read w v marks is x link names (sym are) is_web ready.knows) ∙ sym told

pub fits_said : (w : Web) → IsWeb w → (root : ℕ) (v : Vertex) (x : ℕ) (link : List ℕ) (marks : List Mark) (given partners : List (List ℕ)) (said : Bool) → IsReady w root v x → Among link (links_of w x) → marks ≡ name_marks w v
    → ArePartners w partners → given ≡ partners → said ≡ list_all (λ name. list_all (is_free marks link) (holders_at given name)) link → fits w (with_link v x link) ≡ said
fits_said w is_web root v x link marks given partners said ready its are joined same told =
    sym (fits_read w v marks are is_web partners joined x link its ready.fit) ∙ ap (λ lists. list_all (λ name. list_all (is_free marks link) (holders_at lists name)) link) (sym same) ∙ sym told

-- what is said of changed marks that are as they were
pub long_still : (w : Web) (old new : Marking) → AreLong w old → AreUnchanged old new → AreLong w new
long_still w old new long same = record { automata = ap length (sym same.automata.marks) ∙ long.automata; names = ap length (sym same.names.marks) ∙ long.names }

pub marks_still : (w : Web) (v : Vertex) (old new : Marking) → AreMarksOf w v old → AreUnchanged old new → AreMarksOf w v new
marks_still w v old new are same = record { automata = sym same.automata.marks ∙ are.automata; names = sym same.names.marks ∙ are.names }

pub unchanged : (a : Marking) → AreUnchanged a a
unchanged a = record { automata = record { marks = refl; log = refl }; names = record { marks = refl; log = refl } }

pub still : (a b c : Marking) → AreUnchanged a b → AreUnchanged b c → AreUnchanged a c
still a b c one two = record {
  automata = record { marks = one.automata.marks ∙ two.automata.marks; log = one.automata.log ∙ two.automata.log };
  names = record { marks = one.names.marks ∙ two.names.marks; log = one.names.log ∙ two.names.log };
}

pub long_of : (w : Web) (v : Vertex) (marking : Marking) → AreMarksOf w v marking → AreLong w marking
long_of w v marking are = record { automata = ap length are.automata ∙ length-automaton_marks w v; names = ap length are.names ∙ length-name_marks w v }

-- an automaton that begins a list makes it sound
pub ready_none : (w : Web) → IsWeb w → (root : ℕ) → IsReady w root [] root
unfolding agrees agrees_as_one fired known fits
ready_none w is_web root = record {
  children = λ u at. sound_first w is_web root u at;
  agree = λ link. sym (none_known (names_of w root) link);
  knows = λ name fires. absurd (false≢true fires);
  fit = none_meet w.cells;
}
  where
    none_meet : (cells : List (ℕ × ℕ)) → list_all (λ cell. not (fired [] cell.0 && fired [] cell.1)) cells ≡ true
    none_meet [] = refl
    none_meet (cell ∷ cells) = none_meet cells

    none_known : (names link : List ℕ) → list_all (λ name. not (known w [] name) || same (has link name) (fired [] name)) names ≡ true
    none_known [] link = refl
    none_known (x ∷ xs) link = none_known xs link
