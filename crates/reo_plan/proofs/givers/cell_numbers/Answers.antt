use Rattle.std.proofs.Common.{◌∷◌, [], ◌+◌, ◌++◌, cond, slice_get, map, Some, sym, ap, ◌∙◌, arith}
use Rattle.std.specs.List.{range_with_len}
use Rattle.std.proofs.lemmas.Option.{slice_get-get_or}
use Rattle.reo_net.specs.Kind.{is_fifo}
use Rattle.reo_net.specs.Steps.{cell_of}
use Rattle.reo_cut.proofs.CountLemmas.{map_range_more}
use Rattle.reo_plan.proofs.CellLemmas.{next_cell}
use Rattle.reo_plan.proofs.givers.cell_numbers.Goals as goal

pub loop-channel-preserved : goal.loop-channel-preserved
loop-channel-preserved c =
    let f = cell_of c.args.net.now in
    let n = c.loop-channel.channel-index in
    let channels = c.channels-channels.result.now in
    let channel = c.channel-item.result in
    record {
      cells = c.in_ok-push.ensures.items ∙ (ap (λ l. l ++ c.loop-channel.cell ∷ []) c.loop-channel.invariant.cells ∙ (ap (λ r. map f (range_with_len 0 n) ++ r ∷ []) c.loop-channel.invariant.cell ∙ sym (map_range_more f n)));
      cell =
          c.with_channel-cell.ensures ∙ ap (λ k. cond (is_fifo channel.kind) (k + 1) k) c.loop-channel.invariant.cell
          ∙ sym (next_cell c.args.net.now n channel (ap (λ l. slice_get l n) (sym c.channels-channels.ensures.channels) ∙ slice_get-get_or channels n channel (omega arith) ∙ ap Some (sym c.channel-item.is)));
    }
