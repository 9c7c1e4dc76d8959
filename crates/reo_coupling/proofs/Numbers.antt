-- Each number stands in one region's list.
use Rattle.std.proofs.Common.{◌≡◌, ℕ, zero, suc, ◌+◌, Bool, true, false, cond, List, [], ◌∷◌, slice_get, nat_eq, Some, None, refl, sym, ap, ◌∙◌, subst, arith}
use Rattle.std.proofs.lemmas.Bool.{eq-eqb, ne_eqb}
use Rattle.reo_fabric.specs.declared.entry.Entry.{Entry}
use Rattle.reo_fabric.specs.Entry.{at_place, RisesFrom}
use Rattle.reo_fabric.specs.Fabric.{first_state}
use Rattle.reo_fabric.specs.History.{state_after}
use Rattle.reo_fabric.proofs.PlaceLemmas.{at_first, at_later, none_below, rises_from_below}
use Rattle.reo_coupling.specs.Parts.{entries_of}
use Rattle.reo_coupling.specs.Laws.{by_number, entry_of, NumbersStandOnce, OnlyCommitsChangeTheState}
use Rattle.reo_coupling.proofs.Commit.{agrees, state_is}

pub rises : (region first : ℕ) (entries : List Entry) → RisesFrom first (by_number (entries_of region first entries))
rises region first [] = tt
rises region first (e ∷ entries) = go (nat_eq region e.region) (rises region (first + 1) entries)
  where
    go : (b : Bool) → RisesFrom (first + 1) (by_number (entries_of region (first + 1) entries))
        → RisesFrom first (by_number (cond b (record { number = first; entry = e } ∷ entries_of region (first + 1) entries) (entries_of region (first + 1) entries)))
    go true rest = (omega arith, rest)
    go false rest = rises_from_below _ first (first + 1) (omega arith) rest

entry_at : (region first k number : ℕ) (entries : List Entry) → number ≡ first + k → at_place (by_number (entries_of region first entries)) number ≡ entry_of region (slice_get entries k)
entry_at region first k number [] is = refl
entry_at region first zero number (e ∷ entries) is =
    go (nat_eq region e.region) (none_below (by_number (entries_of region (first + 1) entries)) (first + 1) number (rises region (first + 1) entries) (omega arith))
  where
    go : (b : Bool) → at_place (by_number (entries_of region (first + 1) entries)) number ≡ None
        → at_place (by_number (cond b (record { number = first; entry = e } ∷ entries_of region (first + 1) entries) (entries_of region (first + 1) entries))) number ≡ cond b (Some e) None
    go true none = at_first (first, e) (by_number (entries_of region (first + 1) entries)) number (eq-eqb number first (omega arith))
    go false none = none
entry_at region first (suc k) number (e ∷ entries) is = go (nat_eq region e.region) (entry_at region (first + 1) k number entries (omega arith))
  where
    go : (b : Bool) → at_place (by_number (entries_of region (first + 1) entries)) number ≡ entry_of region (slice_get entries k)
        → at_place (by_number (cond b (record { number = first; entry = e } ∷ entries_of region (first + 1) entries) (entries_of region (first + 1) entries))) number ≡ entry_of region (slice_get entries k)
    go true rest = at_later (first, e) (by_number (entries_of region (first + 1) entries)) number (ne_eqb number first (λ same. omega arith)) ∙ rest
    go false rest = rest

pub numbers_stand_once : NumbersStandOnce
numbers_stand_once setting moment counted = record {
  rise = λ region within. subst (λ l. RisesFrom 0 (by_number l)) (sym (counted.lists region within)) (rises region 0 moment.history);
  entries = λ region number within. ap (λ l. at_place (by_number l) number) (counted.lists region within) ∙ entry_at region 0 number number moment.history (omega arith);
}

pub only_commits : OnlyCommitsChangeTheState
only_commits = record {
  begins = λ setting region before after step. (step.history, ap (state_after (first_state setting.fabric)) step.history);
  reads_clock = λ setting region before after step. (step.history, ap (state_after (first_state setting.fabric)) step.history);
  sees_cell = λ setting region before after step. (step.history, ap (state_after (first_state setting.fabric)) step.history);
  sees_port = λ setting region before after step. (step.history, ap (state_after (first_state setting.fabric)) step.history);
  sees_offer = λ setting region before after step. (step.history, ap (state_after (first_state setting.fabric)) step.history);
  sets_cell = λ setting region before after step. (step.history, ap (state_after (first_state setting.fabric)) step.history);
  sets_got = λ setting region before after step. (step.history, ap (state_after (first_state setting.fabric)) step.history);
  answers = λ setting region before after step. (step.history, ap (state_after (first_state setting.fabric)) step.history);
  commits = λ setting region before after inside stands step. (agrees setting region before after inside stands step, state_is setting region before after inside stands step);
}
