use Rattle.std.proofs.Common.{◌≡◌, [], ◌∷◌, ◌++◌, length, map, Some, None, is_some, if◌then◌else◌, sym, ap, subst, ◌∙◌, arith}
use Rattle.std.specs.Result.{MatchResult, is_ok}
use Rattle.std.specs.Prelude.{Result, Ok, Err}
use Rattle.std.specs.String.{string_bytes, string_eq}
use Rattle.std.proofs.lemmas.List.{length-map}
use Rattle.std.proofs.lemmas.Result.{IfOk-at_ok}
use Rattle.indexmap.specs.IndexSet.{insert_key}
use Rattle.reo_value.specs.Lexicon.{place_of, IsLexicon}
use Rattle.reo_value.proofs.IndexLemmas.{map-insert_key}
use Rattle.reo_value.proofs.LexiconLemmas.{slice_get-place_of, place_of-push, IsLexicon-push}
use Rattle.reo_value.proofs.lexicon.Lexicon.add.Goals as goal

-- what `map_err` gives at an `Ok` was that `Ok`
Ok-map_err : {T D E : Type 0} (Q : D → Type 0) (before : Result T D) (after : Result T E) (x : T)
    → MatchResult before (λ y. after ≡ Ok y) Q → is_ok after ≡ is_ok before → after ≡ Ok x → before ≡ Ok x
Ok-map_err Q (Ok y) after x cases variant ok =
    let same : y ≡ x = cc in
    ap Ok same
Ok-map_err Q (Err e) after x cases variant ok = grind arith

module _ (c : goal.In_ok-map_err) where
  bytes_owned : string_bytes c.in_ok-owned.owned ≡ c.args.text.now
  bytes_owned = IfOk-at_ok (λ s. string_bytes s ≡ c.args.text.now)
      (Ok-map_err _ c.from_str.result c.map_err.result c.in_ok-owned.owned c.map_err.ensures.cases c.map_err.ensures.variant c.in_ok-owned.was) c.from_str.ensures.ok

  absent : place_of c.args.self.now c.args.text.now ≡ None
  absent = sym c.in_default.ensures.place

  keys : c.insert.new.self.keys ≡ insert_key string_eq c.self.inside.texts.keys c.in_ok-owned.owned
  keys = IfOk-at_ok (λ _. c.insert.new.self.keys ≡ insert_key string_eq c.self.inside.texts.keys c.in_ok-owned.owned)
      (Ok-map_err _ c.insert.result c.map_err-2.result c.in_ok-map_err.field-0 c.map_err-2.ensures.cases c.map_err-2.ensures.variant c.in_ok-map_err.was) c.insert.ensures.keys

  list : map string_bytes c.insert.new.self.keys ≡ c.args.self.now ++ c.args.text.now ∷ []
  list =
      let none : place_of (map string_bytes c.self.inside.texts.keys) (string_bytes c.in_ok-owned.owned) ≡ None = rw (c.self.view_is, bytes_owned) absent in
      ap (map string_bytes) keys ∙ map-insert_key string_bytes c.self.inside.texts.keys c.in_ok-owned.owned none
      ∙ ap (λ texts. texts ++ string_bytes c.in_ok-owned.owned ∷ []) c.self.view_is ∙ ap (λ text. c.args.self.now ++ text ∷ []) bytes_owned

  number : length c.args.self.now ≡ c.len-number.result
  number = ap length (sym c.self.view_is) ∙ length-map c.self.inside.texts.keys string_bytes ∙ sym c.len-number.ensures.len

  place : place_of (map string_bytes c.insert.new.self.keys) c.args.text.now ≡ Some c.len-number.result
  place = ap (λ texts. place_of texts c.args.text.now) list ∙ place_of-push c.args.self.now c.args.text.now absent ∙ ap Some number

pub invariant_of-self-2 : goal.invariant_of-self-2
invariant_of-self-2 c =
    let was : IsLexicon c.args.self.now = subst IsLexicon c.self.view_is c.self.invariant in
    subst IsLexicon (sym (list c)) (IsLexicon-push c.args.self.now c.args.text.now was (absent c) (omega arith) (omega (arith, number c, was.few)))

pub returns-clause-number : goal.returns-clause-number
returns-clause-number c = slice_get-place_of (map string_bytes c.insert.new.self.keys) c.args.text.now c.len-number.result (place c)

pub returns-clause-place : goal.returns-clause-place
returns-clause-place c = place c

pub returns-clause-list : goal.returns-clause-list
returns-clause-list c =
    list c ∙ sym (ap (λ at. if is_some at then c.args.self.now else c.args.self.now ++ c.args.text.now ∷ []) (absent c))
