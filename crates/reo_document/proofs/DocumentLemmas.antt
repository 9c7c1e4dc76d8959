-- What bytes spell is a document.
use Rattle.std.proofs.Common.{◌≡◌, ℕ, suc, ◌+◌, ◌-◌, ◌<◌, ◌≤◌, ◌==◌, nat_le, if◌then◌else◌, Bool, true, false, not, List, [], ◌∷◌, ◌++◌, length, set, get_or, take, All, Option, Some, None, is_some, slice_get, refl, sym, ap, subst, ◌∙◌, arith, ◌⊎◌, inl, inr, length-append, length-set}
use Rattle.std.specs.List.{filter_map, list_any}
use Rattle.std.specs.Option.{option_map_or, option_and_then}
use Rattle.std.proofs.lemmas.Bool.{cases_eq, false≢true, eqb-true, eq-eqb, leb-false}
use Rattle.std.proofs.lemmas.Option.{none-some, same_Some, slice_get_within, slice_get-get_or, get_or_from_slice_get}
use Rattle.std.proofs.lemmas.List.Elements.{All-nil, All-cons, All-append, All-weaker, filter_map-append}
use Rattle.std.proofs.lemmas.List.Sums.{sum_by-append, sum_by-set}
use Rattle.reo_value.specs.Lexicon.{place_of, added}
use Rattle.reo_value.specs.Op.{port_of, way_of}
use Rattle.reo_value.specs.declared.op.Op.{Op}
use Rattle.reo_value.specs.declared.op.Op.TheVariants as op
use Rattle.reo_value.specs.declared.op.Way.{Way}
use Rattle.reo_value.specs.declared.op.Way.TheVariants.{Put, Get}
use Rattle.reo_value.proofs.LexiconLemmas.{length-added}
use Rattle.reo_net.specs.declared.kind.Kind.{Kind}
use Rattle.reo_net.specs.declared.circuit.Channel.{Channel}
use Rattle.reo_net.specs.declared.circuit.Port.{Port}
use Rattle.reo_net.specs.Kind.{texts_of_kind}
use Rattle.reo_net.specs.Checks.{HasTextsBelow, HasKnownNumbers}
use Rattle.reo_net.specs.Scripts.{IsOperationOf, ScriptsFit}
use Rattle.reo_grammar.specs.Lines.{Sentence}
use Rattle.reo_sentence.specs.Limits.{is_wide, is_long}
use Rattle.reo_sentence.specs.Numbered.{number_in}
use Rattle.reo_sentence.specs.Said.{Said, PortSaid, ChannelSaid, ComponentSaid, PutSaid, GetSaid, numbered_sentence}
use Rattle.reo_document.specs.declared.line.Line.{Line}
use Rattle.reo_document.specs.declared.line.Line.TheVariants as line
use Rattle.reo_document.specs.declared.refusal.Misplaced.{Misplaced}
use Rattle.reo_document.specs.declared.refusal.Misplaced.TheVariants.{UnknownPort, WrongWay, PortShared, TooManyOps, TooManyComponents, ComponentTwice}
use Rattle.reo_document.specs.declared.refusal.TextRefusal.TheVariants.{NumberRange, TextLong}
use Rattle.reo_document.specs.Document.{DocumentData, IsDocument, channel_in, port_in, circuit_of}
use Rattle.reo_document.specs.Placed.{is_same_way, port_from, port_named, is_taken, operation_count, misplaced_at, misplaced, port_number, with_operation, with_said}
use Rattle.reo_document.specs.Lines.{lines_of}
use Rattle.reo_document.specs.Spells.{empty, Outcome, Goes, Stops, outcome_by, placed, outcome_of, Leads, bad, large, skipped, wrong, says, Then, LinesLead, Spells}
use Rattle.reo_document.proofs.ListLemmas.{slice_get-append, slice_get-push, slice_get-set_same, slice_get-set_other, slice_get-take, list_any-slice_get}
use Rattle.reo_document.proofs.TextLemmas.{AreBelow, AreBelow-more, number_in-below, number_in-added, texts_said, sentence_named}

-- the numbers in the lines are those of so many nodes and texts
record HasNumbersBelow (nodes texts : ℕ) (lines : List Line) : Type 0 where
  pub ends_a : All (λ channel. channel.a < nodes) (filter_map channel_in lines)
  pub ends_b : All (λ channel. channel.b < nodes) (filter_map channel_in lines)
  pub port_nodes : All (λ port. port.node < nodes) (filter_map port_in lines)
  pub constants : All (λ channel. HasTextsBelow texts channel.kind) (filter_map channel_in lines)

numbers_of : (d : DocumentData) → HasKnownNumbers (circuit_of d) → HasNumbersBelow (length d.nodes) (length d.texts) d.lines
numbers_of d is = record { ends_a = is.ends_a; ends_b = is.ends_b; port_nodes = is.port_nodes; constants = is.constants }

known_numbers : (d : DocumentData) → HasNumbersBelow (length d.nodes) (length d.texts) d.lines → HasKnownNumbers (circuit_of d)
known_numbers d is = record { ends_a = is.ends_a; ends_b = is.ends_b; port_nodes = is.port_nodes; constants = is.constants }

numbers-more : (n m t u : ℕ) (lines : List Line) → n ≤ m → t ≤ u → HasNumbersBelow n t lines → HasNumbersBelow m u lines
numbers-more n m t u lines more also was = record {
  ends_a = All-weaker (λ channel. channel.a < n) (λ channel. channel.a < m) (λ channel below. omega (arith, more, below)) (filter_map channel_in lines) was.ends_a;
  ends_b = All-weaker (λ channel. channel.b < n) (λ channel. channel.b < m) (λ channel below. omega (arith, more, below)) (filter_map channel_in lines) was.ends_b;
  port_nodes = All-weaker (λ port. port.node < n) (λ port. port.node < m) (λ port below. omega (arith, more, below)) (filter_map port_in lines) was.port_nodes;
  constants = All-weaker (λ channel. HasTextsBelow t channel.kind) (λ channel. HasTextsBelow u channel.kind) (λ channel below. AreBelow-more t u (texts_of_kind channel.kind) also below) (filter_map channel_in lines) was.constants;
}

numbers-append : (n t : ℕ) (lines more : List Line) → HasNumbersBelow n t lines → HasNumbersBelow n t more → HasNumbersBelow n t (lines ++ more)
numbers-append n t lines more front back =
    let channels = sym (filter_map-append channel_in lines more) in
    let ports = sym (filter_map-append port_in lines more) in
    record {
      ends_a = subst (All (λ channel. channel.a < n)) channels (All-append (λ channel. channel.a < n) (filter_map channel_in lines) (filter_map channel_in more) front.ends_a back.ends_a);
      ends_b = subst (All (λ channel. channel.b < n)) channels (All-append (λ channel. channel.b < n) (filter_map channel_in lines) (filter_map channel_in more) front.ends_b back.ends_b);
      port_nodes = subst (All (λ port. port.node < n)) ports (All-append (λ port. port.node < n) (filter_map port_in lines) (filter_map port_in more) front.port_nodes back.port_nodes);
      constants = subst (All (λ channel. HasTextsBelow t channel.kind)) channels (All-append (λ channel. HasTextsBelow t channel.kind) (filter_map channel_in lines) (filter_map channel_in more) front.constants back.constants);
    }

numbers-port : (n t node : ℕ) (way : Way) → node < n → HasNumbersBelow n t (line.Port way node ∷ [])
numbers-port n t node way below = record {
  ends_a = All-nil (λ channel. channel.a < n);
  ends_b = All-nil (λ channel. channel.b < n);
  port_nodes = All-cons (λ port. port.node < n) _ [] below (All-nil (λ port. port.node < n));
  constants = All-nil (λ channel. HasTextsBelow t channel.kind);
}

numbers-channel : (n t : ℕ) (channel : Channel) → channel.a < n → channel.b < n → HasTextsBelow t channel.kind → HasNumbersBelow n t (line.Channel channel ∷ [])
numbers-channel n t channel below_a below_b constant = record {
  ends_a = All-cons (λ c. c.a < n) channel [] below_a (All-nil (λ c. c.a < n));
  ends_b = All-cons (λ c. c.b < n) channel [] below_b (All-nil (λ c. c.b < n));
  port_nodes = All-nil (λ port. port.node < n);
  constants = All-cons (λ c. HasTextsBelow t c.kind) channel [] constant (All-nil (λ c. HasTextsBelow t c.kind));
}

-- scripts fit a circuit with more ports
fit-more : (d e : DocumentData) (more : List Port) → filter_map port_in e.lines ≡ filter_map port_in d.lines ++ more → e.scripts ≡ d.scripts → ScriptsFit (circuit_of d) d.scripts → ScriptsFit (circuit_of e) e.scripts
fit-more d e more ports scripts was = record {
  ported = λ k o is.
      let found = was.ported k o (subst (λ ss. IsOperationOf ss k o) scripts is) in
      (found.0, ap (λ ps. slice_get ps (port_of o)) ports ∙ slice_get-append (filter_map port_in d.lines) more (port_of o) _ found.1);
  unshared = λ j k o q is_o is_q same. was.unshared j k o q (subst (λ ss. IsOperationOf ss j o) scripts is_o) (subst (λ ss. IsOperationOf ss k q) scripts is_q) same;
}

module _ (d : DocumentData) (was : IsDocument d) where
  -- more texts
  more_texts : (texts : List (List ℕ)) → length d.texts ≤ length texts → IsDocument (record d { texts = texts })
  more_texts texts more = record {
    known = known_numbers (record d { texts = texts }) (numbers-more (length d.nodes) (length d.nodes) (length d.texts) (length texts) d.lines (omega arith) more (numbers_of d was.known));
    fit = record { ported = was.fit.ported; unshared = was.fit.unshared };
    scripted = was.scripted;
    few_people = was.few_people;
    few_operations = was.few_operations;
  }

  -- a port more
  with_port : (way : Way) (node : List ℕ) → IsDocument (with_said d (PortSaid way node))
  with_port way node =
      let nodes = added d.nodes node in
      let number = number_in nodes node in
      let lines = d.lines ++ line.Port way number ∷ [] in
      let e : DocumentData = record d { nodes = nodes; lines = lines } in
      record {
        known = known_numbers e (numbers-append (length nodes) (length d.texts) d.lines (line.Port way number ∷ [])
            (numbers-more (length d.nodes) (length nodes) (length d.texts) (length d.texts) d.lines (length-added d.nodes node).0 (omega arith) (numbers_of d was.known))
            (numbers-port (length nodes) (length d.texts) number way (number_in-below d.nodes node)));
        fit = fit-more d e (record { node = number; way = way } ∷ []) (filter_map-append port_in d.lines (line.Port way number ∷ [])) refl was.fit;
        scripted = was.scripted;
        few_people = was.few_people;
        few_operations = was.few_operations;
      }

  -- a channel more
  with_channel : (kind : Kind) (a b : List ℕ) → AreBelow (length d.texts) (texts_of_kind kind) → IsDocument (with_said d (ChannelSaid kind a b))
  with_channel kind a b below =
      let first = added d.nodes a in
      let nodes = added first b in
      let channel : Channel = record { kind = kind; a = number_in nodes a; b = number_in nodes b } in
      let lines = d.lines ++ line.Channel channel ∷ [] in
      let e : DocumentData = record d { nodes = nodes; lines = lines } in
      let first_more = (length-added d.nodes a).0 in
      let more = (length-added first b).0 in
      record {
        known = known_numbers e (numbers-append (length nodes) (length d.texts) d.lines (line.Channel channel ∷ [])
            (numbers-more (length d.nodes) (length nodes) (length d.texts) (length d.texts) d.lines (omega (arith, first_more, more)) (omega arith) (numbers_of d was.known))
            (numbers-channel (length nodes) (length d.texts) channel (number_in-added d.nodes a b) (number_in-below first b) below));
        fit = fit-more d e [] (filter_map-append port_in d.lines (line.Channel channel ∷ [])) refl was.fit;
        scripted = was.scripted;
        few_people = was.few_people;
        few_operations = was.few_operations;
      }

-- an operation in scripts with an empty one more
unpushed : (scripts : List (List Op)) (k : ℕ) (o : Op) → IsOperationOf (scripts ++ [] ∷ []) k o → IsOperationOf scripts k o
unpushed scripts k o is =
    elim (slice_get-push scripts [] k is.script is.found) [
      | inl before ↦ record { script = is.script; found = before; place = is.place; at = is.at }
      | inr end ↦ absurd (none-some o (subst (λ script. slice_get script is.place ≡ Some o) (sym end.1) is.at))
    ]

-- an operation in scripts with this one more, at the end of script `last`
operation_of-set : (scripts : List (List Op)) (last : ℕ) (script : List Op) (more : Op) → slice_get scripts last ≡ Some script → (k : ℕ) (o : Op)
    → IsOperationOf (set scripts last (script ++ more ∷ [])) k o → IsOperationOf scripts k o ⊎ ((k ≡ last) × (o ≡ more))
operation_of-set scripts last script more was k o is = by (cases_eq k last)
  where
    this : IsOperationOf scripts last o ⊎ ((last ≡ last) × (o ≡ more)) → k ≡ last → IsOperationOf scripts k o ⊎ ((k ≡ last) × (o ≡ more))
    this found same = subst (λ j. IsOperationOf scripts j o ⊎ ((j ≡ last) × (o ≡ more))) (sym same) found

    by : (k ≡ last) ⊎ (k ≡ last → ⊥) → IsOperationOf scripts k o ⊎ ((k ≡ last) × (o ≡ more))
    by (inr other) = inl (record { script = is.script; found = sym (slice_get-set_other scripts last k (script ++ more ∷ []) other) ∙ is.found; place = is.place; at = is.at })
    by (inl same) =
        let longer : script ++ more ∷ [] ≡ is.script =
        same_Some _ _ (sym (slice_get-set_same scripts last (script ++ more ∷ []) (slice_get_within scripts last script was)) ∙ subst (λ j. slice_get (set scripts last (script ++ more ∷ [])) j ≡ Some is.script) same is.found) in
        this (elim (slice_get-push script more is.place o (subst (λ s. slice_get s is.place ≡ Some o) (sym longer) is.at)) [
          | inl before ↦ inl (record { script = script; found = was; place = is.place; at = before })
          | inr end ↦ inr (refl, sym end.1)
        ]) same

-- the first port at a node stands among the ports
pub port_from-stands : (number : ℕ) (lines : List Line) (node port : ℕ) (way : Way) → port_from number lines node ≡ Some (port, way)
    → (i : ℕ) × ((port ≡ number + i) × (slice_get (filter_map port_in lines) i ≡ Some (record { node = node; way = way })))
port_from-stands number [] node port way is = absurd (none-some _ is)
port_from-stands number (line.Channel channel ∷ lines) node port way is = port_from-stands number lines node port way is
port_from-stands number (line.Port goes at ∷ lines) node port way is = by (at == node) refl is (port_from-stands (number + 1) lines node port way)
  where
    by : (here : Bool) → (at == node) ≡ here → (if here then Some (number, goes) else port_from (number + 1) lines node) ≡ Some (port, way)
        → (port_from (number + 1) lines node ≡ Some (port, way) → (i : ℕ) × ((port ≡ number + 1 + i) × (slice_get (filter_map port_in lines) i ≡ Some (record { node = node; way = way }))))
        → (i : ℕ) × ((port ≡ number + i) × (slice_get (record { node = at; way = goes } ∷ filter_map port_in lines) i ≡ Some (record { node = node; way = way })))
    by true here found more =
        let same : ◌≡◌ {A = ℕ × Way} (number, goes) (port, way) = same_Some _ _ found in
        let nodes : at ≡ node = eqb-true at node here in
        let ways : goes ≡ way = ap (λ (p : ℕ × Way). p.1) same in
        let numbers : number ≡ port = ap (λ (p : ℕ × Way). p.0) same in
        (0, (omega (arith, numbers), ap Some (ap (λ n. record { node = n; way = goes }) nodes ∙ ap (λ w. record { node = node; way = w }) ways)))
    by false here found more =
        let rest = more found in
        (suc rest.0, (omega (arith, rest.1.0), rest.1.1))

-- a port that no earlier component uses
untaken : (scripts : List (List Op)) (port k : ℕ) (o : Op) → is_taken scripts port ≡ false → IsOperationOf scripts k o → port_of o ≡ port → k < length scripts - 1 → ⊥
untaken scripts port k o free is same before =
    let uses = list_any-slice_get (λ q. port_of q == port) is.script is.place o is.at (eq-eqb (port_of o) port same) in
    let taken = list_any-slice_get (λ script. list_any (λ q. port_of q == port) script) (take (length scripts - 1) scripts) k is.script (slice_get-take scripts (length scripts - 1) k is.script before is.found) uses in
    false≢true (sym free ∙ taken)

-- The last component may use a port.
record MayUse (d : DocumentData) (o : Op) : Type 0 where
  pub node : ℕ
  pub found : slice_get (filter_map port_in d.lines) (port_of o) ≡ Some (record { node = node; way = way_of o })
  pub free : is_taken d.scripts (port_of o) ≡ false
  pub room : operation_count d.scripts < 100000

-- an operation more
with_last : (d : DocumentData) (scripts : List (List Op)) (o : Op) → IsDocument d → MayUse d o → d.scripts ≡ scripts → IsDocument (record d { scripts = with_operation scripts o })
with_last d [] o was may is = subst (λ ss. IsDocument (record d { scripts = ss })) is was
with_last d (s ∷ ss) o was may is =
    let scripts : List (List Op) = s ∷ ss in
    let last : ℕ = length scripts - 1 in
    let script : List Op = get_or scripts last [] in
    let within : last < length scripts = omega arith in
    let at : slice_get scripts last ≡ Some script = slice_get-get_or scripts last [] within in
    let later : List (List Op) = set scripts last (script ++ o ∷ []) in
    let e : DocumentData = record d { scripts = later } in
    let before : (k : ℕ) (q : Op) → IsOperationOf scripts k q → IsOperationOf d.scripts k q = λ k q there. subst (λ x. IsOperationOf x k q) (sym is) there in
    let free : is_taken scripts (port_of o) ≡ false = ap (λ x. is_taken x (port_of o)) (sym is) ∙ may.free in
    let count : operation_count scripts ≡ operation_count d.scripts = ap operation_count (sym is) in
    let lone : (k : ℕ) (q : Op) → IsOperationOf scripts k q → port_of q ≡ port_of o → k ≡ last =
    λ k q there same. by_place k (slice_get_within scripts k there.script there.found) (λ less. untaken scripts (port_of o) k q free there same less) in
    record {
      known = known_numbers e (numbers_of d was.known);
      fit = record {
        ported = λ k q there. elim (operation_of-set scripts last script o at k q there) [
          | inl old ↦ was.fit.ported k q (before k q old)
          | inr new ↦ (may.node, subst (λ x. slice_get (filter_map port_in d.lines) (port_of x) ≡ Some (record { node = may.node; way = way_of x })) (sym new.1) may.found)
        ];
        unshared = λ j k q r is_q is_r same.
            by_parts j k q r same (operation_of-set scripts last script o at j q is_q) (operation_of-set scripts last script o at k r is_r)
            (λ p q. was.fit.unshared j k _ _ (before j _ p) (before k _ q)) (lone j q) (lone k r);
      };
      scripted = was.scripted ∙ ap length is ∙ sym (length-set scripts last (script ++ o ∷ []));
      few_people = was.few_people;
      few_operations = omega (
        arith,
        may.room,
        count,
        sum_by-set (λ x. length x) scripts last (script ++ o ∷ []) script within,
        ap length (get_or_from_slice_get scripts last script script at),
        length-append script (o ∷ []),
      );
    }
  where
    by_place : (k : ℕ) → k < length (s ∷ ss) → (k < length (s ∷ ss) - 1 → ⊥) → k ≡ length (s ∷ ss) - 1
    by_place k within not_before = elim (cases_eq k (length (s ∷ ss) - 1)) [ inl same ↦ same | inr other ↦ absurd (not_before (omega (arith, within, other))) ]

    by_parts : (j k : ℕ) (q r : Op) → port_of q ≡ port_of r → IsOperationOf (s ∷ ss) j q ⊎ ((j ≡ length (s ∷ ss) - 1) × (q ≡ o)) → IsOperationOf (s ∷ ss) k r ⊎ ((k ≡ length (s ∷ ss) - 1) × (r ≡ o))
        → (IsOperationOf (s ∷ ss) j q → IsOperationOf (s ∷ ss) k r → port_of q ≡ port_of r → j ≡ k)
        → (IsOperationOf (s ∷ ss) j q → port_of q ≡ port_of o → j ≡ length (s ∷ ss) - 1)
        → (IsOperationOf (s ∷ ss) k r → port_of r ≡ port_of o → k ≡ length (s ∷ ss) - 1) → j ≡ k
    by_parts j k q r same (inl p) (inl t) old lone_j lone_k = old p t same
    by_parts j k q r same (inl p) (inr t) old lone_j lone_k = lone_j p (same ∙ ap port_of t.1) ∙ sym t.0
    by_parts j k q r same (inr p) (inl t) old lone_j lone_k = p.0 ∙ sym (lone_k t (sym same ∙ ap port_of p.1))
    by_parts j k q r same (inr p) (inr t) old lone_j lone_k = p.0 ∙ sym t.0

-- where nothing is said against an operation, the last component may use the port
may_use : (d : DocumentData) (way : Way) (node : List ℕ) (o : Op) → way_of o ≡ way → port_of o ≡ port_number d node → misplaced_at d way (port_named d node) ≡ None → MayUse d o
may_use d way node o goes at none = by_place (place_of d.nodes node) refl
  where
    same_way : (w v : Way) → is_same_way w v ≡ true → w ≡ v
    same_way Put Put is = refl
    same_way Put Get is = absurd (false≢true is)
    same_way Get Put is = absurd (false≢true is)
    same_way Get Get is = refl

    by_tests : (n port : ℕ) (w : Way) → slice_get (filter_map port_in d.lines) port ≡ Some (record { node = n; way = w }) → port_of o ≡ port → (same taken full : Bool)
        → is_same_way w way ≡ same → is_taken d.scripts port ≡ taken → nat_le 100000 (operation_count d.scripts) ≡ full
        → (if not same then Some WrongWay else (if taken then Some PortShared else (if full then Some TooManyOps else None))) ≡ None → MayUse d o
    by_tests n port w stands number false taken full a b c is = absurd (none-some WrongWay (sym is))
    by_tests n port w stands number true true full a b c is = absurd (none-some PortShared (sym is))
    by_tests n port w stands number true false true a b c is = absurd (none-some TooManyOps (sym is))
    by_tests n port w stands number true false false a b c is = record {
      node = n;
      found = ap (slice_get (filter_map port_in d.lines)) number ∙ stands ∙ ap (λ v. Some (record { node = n; way = v })) (same_way w way a ∙ sym goes);
      free = ap (is_taken d.scripts) number ∙ b;
      room = omega (arith, leb-false 100000 (operation_count d.scripts) c);
    }

    by_port : (n : ℕ) (port : Option (ℕ × Way)) → port_from 0 d.lines n ≡ port → port_named d node ≡ port → MayUse d o
    by_port n None is named = absurd (none-some UnknownPort (sym (ap (misplaced_at d way) (sym named) ∙ none)))
    by_port n (Some port) is named =
        let stands = port_from-stands 0 d.lines n port.0 port.1 is in
        let number : port.0 ≡ stands.0 = omega (arith, stands.1.0) in
        by_tests n port.0 port.1 (ap (slice_get (filter_map port_in d.lines)) number ∙ stands.1.1) (at ∙ ap (λ p. option_map_or (λ (q : ℕ × Way). q.0) p 0) named)
        (is_same_way port.1 way) (is_taken d.scripts port.0) (nat_le 100000 (operation_count d.scripts)) refl refl refl (ap (misplaced_at d way) (sym named) ∙ none)

    by_place : (place : Option ℕ) → place_of d.nodes node ≡ place → MayUse d o
    by_place None is = absurd (none-some UnknownPort (sym (ap (misplaced_at d way) (sym (ap (λ p. option_and_then (λ n. port_from 0 d.lines n) p) is)) ∙ none)))
    by_place (Some n) is = by_port n (port_from 0 d.lines n) refl (ap (λ p. option_and_then (λ m. port_from 0 d.lines m) p) is)

-- a component more
with_component : (d : DocumentData) (name : List ℕ) → IsDocument d → misplaced d (ComponentSaid name) ≡ None → IsDocument (with_said d (ComponentSaid name))
with_component d name was none = by (nat_le 128 (length d.people)) (place_of d.people name) refl refl none
  where
    by : (full : Bool) (place : Option ℕ) → nat_le 128 (length d.people) ≡ full → place_of d.people name ≡ place
        → (if full then Some TooManyComponents else (if is_some place then Some ComponentTwice else None)) ≡ None → IsDocument (with_said d (ComponentSaid name))
    by true place a b is = absurd (none-some TooManyComponents (sym is))
    by false (Some n) a b is = absurd (none-some ComponentTwice (sym is))
    by false None a b is =
        let people : added d.people name ≡ d.people ++ name ∷ [] = ap (λ p. if is_some p then d.people else d.people ++ name ∷ []) b in
        let longer : length (added d.people name) ≡ length d.people + 1 = ap length people ∙ length-append d.people (name ∷ []) in
        let few : length d.people < 128 = omega (arith, leb-false 128 (length d.people) a) in
        record {
          known = known_numbers (with_said d (ComponentSaid name)) (numbers_of d was.known);
          fit = record {
            ported = λ k o there. was.fit.ported k o (unpushed d.scripts k o there);
            unshared = λ j k o q is_o is_q same. was.fit.unshared j k o q (unpushed d.scripts j o is_o) (unpushed d.scripts k q is_q) same;
          };
          scripted = omega (arith, longer, was.scripted, length-append d.scripts ([] ∷ []));
          few_people = omega (arith, longer, few);
          few_operations = omega (arith, was.few_operations, sum_by-append (λ script. length script) d.scripts ([] ∷ []));
        }

-- what a line says is added to a document
with_line : (d : DocumentData) (it : Said) → IsDocument d → AreBelow (length d.texts) (texts_said it) → misplaced d it ≡ None → IsDocument (with_said d it)
with_line d (PortSaid way node) was below none = with_port d was way node
with_line d (ChannelSaid kind a b) was below none = with_channel d was kind a b below
with_line d (ComponentSaid name) was below none = with_component d name was none
with_line d (PutSaid node value) was below none =
    with_last d d.scripts (op.Put (port_number d node) value) was (may_use d Put node (op.Put (port_number d node) value) refl refl none) refl
with_line d (GetSaid node) was below none =
    with_last d d.scripts (op.Get (port_number d node)) was (may_use d Get node (op.Get (port_number d node)) refl refl none) refl

-- what may not stand does not depend on the texts
same_place : (d : DocumentData) (texts : List (List ℕ)) (it : Said) → misplaced (record d { texts = texts }) it ≡ misplaced d it
same_place d texts (PortSaid way node) = refl
same_place d texts (ChannelSaid kind a b) = refl
same_place d texts (ComponentSaid name) = refl
same_place d texts (PutSaid node value) = refl
same_place d texts (GetSaid node) = refl

abbrev pub IsGood : Outcome → Type 0
IsGood (Goes document) = IsDocument document
IsGood (Stops refusal) = Unit {0}

good_outcome : (number : ℕ) (d : DocumentData) (sentence : Sentence) → IsDocument d → IsGood (outcome_of number d sentence)
good_outcome number d sentence was = by (is_wide sentence) (is_long sentence)
  where
    it : Said
    it = (numbered_sentence sentence d.texts).1

    texts : List (List ℕ)
    texts = (numbered_sentence sentence d.texts).0

    by_reason : (reason : Option Misplaced) → misplaced d it ≡ reason → IsGood (outcome_by number reason (with_said (record d { texts = texts }) it))
    by_reason (Some why) is = tt
    by_reason None is =
        let grows = sentence_named sentence d.texts in
        with_line (record d { texts = texts }) it (more_texts d was texts grows.more) grows.below (same_place d texts it ∙ is)

    by : (wide long : Bool) → IsGood (if wide then Stops (NumberRange number) else (if long then Stops (TextLong number) else placed number d (numbered_sentence sentence d.texts)))
    by true long = tt
    by false true = tt
    by false false = by_reason (misplaced d it) refl

good_line : (d : DocumentData) (number : ℕ) (line : List ℕ) (outcome : Outcome) → IsDocument d → Leads d number line outcome → IsGood outcome
good_line d number line _ was (bad at is) = tt
good_line d number line _ was (large is) = tt
good_line d number line _ was (skipped over none) = was
good_line d number line _ was (wrong front rest over some split goes) = tt
good_line d number line _ was (says sentence over some is) = good_outcome number d sentence was

good_lines : (d : DocumentData) (number : ℕ) (lines : List (List ℕ)) (outcome : Outcome) → IsDocument d → LinesLead d number lines outcome → IsGood outcome
unfolding LinesLead
good_lines d number [] outcome was lead = subst IsGood (sym lead) was
good_lines d number (line ∷ lines) outcome was lead = by lead.0 (good_line d number line lead.0 was lead.1.0) lead.1.1 (λ next is rest. good_lines next (number + 1) lines outcome is rest)
  where
    by : (middle : Outcome) → IsGood middle → Then middle (λ next. LinesLead next (number + 1) lines outcome) outcome
        → ((next : DocumentData) → IsDocument next → LinesLead next (number + 1) lines outcome → IsGood outcome) → IsGood outcome
    by (Goes next) is rest each = each next is rest
    by (Stops refusal) is same each = subst IsGood (sym same) tt

empty_document : IsDocument empty
empty_document = record {
  known = record {
    ends_a = All-nil (λ channel. channel.a < 0);
    ends_b = All-nil (λ channel. channel.b < 0);
    port_nodes = All-nil (λ port. port.node < 0);
    constants = All-nil (λ channel. HasTextsBelow 0 channel.kind);
  };
  fit = record {
    ported = λ k o is. absurd (none-some is.script is.found);
    unshared = λ j k o q is_o is_q same. absurd (none-some is_o.script is_o.found);
  };
  scripted = refl;
  few_people = omega arith;
  few_operations = omega arith;
}

-- what bytes spell is a document
pub spelled_document : (bytes : List ℕ) (document : DocumentData) → Spells bytes document → IsDocument document
spelled_document bytes document spells = good_lines empty 1 (lines_of bytes) (Goes document) empty_document spells.1
