-- A region without entries owes nothing.
use Rattle.std.proofs.Common.{◌≡◌, ℕ, ◌<◌, ⊎_elim, List, [], ◌∷◌, ◌++◌, length, Some, refl, ap, arith, length-append}
use Rattle.std.proofs.lemmas.Bool.{eq-eqb}
use Rattle.reo_fabric.specs.declared.entry.Numbered.{Numbered}
use Rattle.reo_fabric.specs.Entry.{at_place}
use Rattle.reo_fabric.proofs.PlaceLemmas.{at_first}
use Rattle.reo_coupling.specs.Moment.{Setting, Moment}
use Rattle.reo_coupling.specs.Parts.{view_of}
use Rattle.reo_coupling.specs.PortParts.{OwesNothing, ports_of}
use Rattle.reo_coupling.specs.Whole.{StandsFor}

none_there : {A : Type 0} (places : List (ℕ × A)) → ((place : ℕ) (x : A) → at_place places place ≡ Some x → ⊥) → places ≡ []
none_there [] never = refl
none_there (p ∷ places) never = absurd (never p.0 p.1 (at_first p places p.0 (eq-eqb p.0 p.0 refl)))

no_last : (entries earlier : List Numbered) (last : Numbered) → entries ≡ [] → entries ≡ earlier ++ last ∷ [] → ⊥
no_last entries earlier last none some = omega (arith, ap length none, ap length some, length-append earlier (last ∷ []))

pub owes_no_first : (setting : Setting) (moment : Moment) (region : ℕ) → StandsFor setting moment → region < setting.fabric.regions → (view_of moment region).entries ≡ [] → OwesNothing (moment.book region)
owes_no_first setting moment region stands within none = record {
  cells = ⊎_elim (λ nothing. nothing) (λ due. absurd (no_last (view_of moment region).entries due.earlier due.last none due.entries)) (stands.dues region within);
  gots = none_there (ports_of moment region).gots_due (λ port value due.
      let last = ((stands.answers region within).gots port value due) in
      no_last (view_of moment region).entries last.is_last.earlier last.last none last.is_last.entries);
  answers = none_there (ports_of moment region).answers_due (λ port number due.
      let last = ((stands.answers region within).answers port number due) in
      no_last (view_of moment region).entries last.is_last.earlier last.last none last.is_last.entries);
}
