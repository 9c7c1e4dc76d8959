-- the steps of a run determine the state that it ends in
use Rattle.std.proofs.Common.{◌≡◌, ℕ, ◌<◌, ◌⊎◌, ⊎_elim, List, [], ◌∷◌, length, get_or, None, sym, ap, ◌∙◌, subst, ext_get_or}
use Rattle.reo_net.specs.declared.kind.Kind.{Kind}
use Rattle.reo_net.specs.declared.circuit.RawCircuit.{RawCircuit}
use Rattle.reo_net.specs.declared.circuit.Step.{Step}
use Rattle.reo_net.specs.Names.{end_a, end_b}
use Rattle.reo_net.specs.Kind.{ChannelStep}
use Rattle.reo_net.specs.Steps.{State, Data, datum, content, ChannelStays, ChannelMoves, ProductStep}
use Rattle.reo_net.specs.Runs.{Run}
use Rattle.reo_net.specs.Laws.{RunsEndOnce}
use Rattle.reo_net.proofs.KindLemmas.{same_move, no_quiet_move}
use Rattle.reo_net.proofs.CellLemmas.{IsCell, cell_at, content_at}

module _ (c : RawCircuit) (texts : List (List ℕ)) (k : ℕ) (kind : Kind) (old : State) (d : Data) where
  stays_no_move : (x y : State) → ChannelStays c k kind old d x → ChannelMoves c texts k kind old d y → ⊥
  stays_no_move x y stays moves =
      no_quiet_move texts kind (content c k kind old) (content c k kind y)
      (subst (λ b. ChannelStep texts kind (content c k kind old) None b (content c k kind y)) stays.no_b
      (subst (λ a. ChannelStep texts kind (content c k kind old) a (d (end_b c k)) (content c k kind y)) stays.no_a moves))

  same_content : (x y : State) → ChannelStays c k kind old d x ⊎ ChannelMoves c texts k kind old d x → ChannelStays c k kind old d y ⊎ ChannelMoves c texts k kind old d y → content c k kind x ≡ content c k kind y
  same_content x y at_x at_y =
      ⊎_elim
      (λ s. ⊎_elim (λ t. s.kept ∙ sym t.kept) (λ m. absurd (stays_no_move x y s m)) at_y)
      (λ m. ⊎_elim (λ s. absurd (stays_no_move y x s m)) (λ n. same_move texts kind (content c k kind old) (d (end_a c k)) (d (end_b c k)) (content c k kind x) (content c k kind y) m n) at_y)
      at_x

-- states with the same contents are one state
pub same_states : (c : RawCircuit) (x y : State) → length x ≡ length y → ((place : ℕ) → place < length x → (cell : IsCell c.channels place) → content c cell.number cell.channel.kind x ≡ content c cell.number cell.channel.kind y)
    → ((place : ℕ) → place < length x → IsCell c.channels place) → x ≡ y
same_states c x y len same cells =
    ext_get_or None x y len (λ place h.
    let cell = cells place h in
    let at_x = content_at c cell.number cell.channel.kind x cell.fifo ∙ ap (λ j. get_or x j None) cell.at in
    let at_y = content_at c cell.number cell.channel.kind y cell.fifo ∙ ap (λ j. get_or y j None) cell.at in
    sym at_x ∙ (same place h cell ∙ at_y))

-- a step leaves one state
pub step_determines : (c : RawCircuit) (texts : List (List ℕ)) (old : State) (step : Step) (x y : State) → ProductStep c texts old step x → ProductStep c texts old step y → x ≡ y
step_determines c texts old step x y to_x to_y =
    same_states c x y (to_x.is_state ∙ sym to_y.is_state)
    (λ place h cell. same_content c texts cell.number cell.channel.kind old (datum step) x y (to_x.channels cell.number cell.channel cell.found) (to_y.channels cell.number cell.channel cell.found))
    (λ place h. cell_at c.channels place (subst (λ n. place < n) to_x.is_state h))

pub runs_end_once : RunsEndOnce
runs_end_once c texts from [] x y run_x run_y = run_x ∙ sym run_y
runs_end_once c texts from (step ∷ steps) x y run_x run_y =
    let same = step_determines c texts from step run_y.0 run_x.0 run_y.1 run_x.1 in
    runs_end_once c texts run_x.0 steps x y run_x.2 (subst (λ next. Run c texts next steps y) same run_y.2)
