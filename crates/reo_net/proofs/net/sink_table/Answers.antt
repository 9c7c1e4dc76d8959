use Rattle.std.proofs.Common.{◌<◌, length, refl, sym, ◌∙◌}
use Rattle.std.proofs.lemmas.Option.{slice_get_read}
use Rattle.reo_net.proofs.TableLemmas.{All_read}
use Rattle.reo_net.proofs.EndTableLemmas.{sink-more, sink-same}
use Rattle.reo_net.proofs.net.sink_table.Goals as goal
use Rattle.reo_net.proofs.net.sink_table.Goals.{then-comes_out_at_b, else-comes_out_at_b}

pub loop-channel-preserved : goal.loop-channel-preserved
loop-channel-preserved c =
    let xs = c.args.channels.now in
    let i = c.loop-channel.channel-index in
    let n = c.args.nodes in
    let table = c.loop-channel.table.items in
    let x = c.channel-item.result in
    let within = c.loop-channel-test.true in
    let read = c.channel-item.is in
    let here = slice_get_read xs (length xs) i x refl within read in
    let fits = All_read (λ channel. channel.b < n) xs i x c.requires within read in
    elim c.if-comes_out_at_b.branch [
      | then-comes_out_at_b w ↦ rw w.table-is (sink-more xs table n i x here fits (sym c.comes_out_at_b.ensures ∙ w.if-comes_out_at_b.true) c.loop-channel.invariant)
      | else-comes_out_at_b w ↦ rw w.table-is (sink-same xs table n i x here (sym c.comes_out_at_b.ensures ∙ w.if-comes_out_at_b.false) c.loop-channel.invariant)
    ]
