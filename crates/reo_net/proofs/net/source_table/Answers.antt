use Rattle.std.proofs.Common.{◌<◌, true, set, length, refl, sym, ◌∙◌}
use Rattle.std.proofs.lemmas.Option.{slice_get_read}
use Rattle.reo_net.proofs.TableLemmas.{All_read}
use Rattle.reo_net.proofs.EndTableLemmas.{source-a, source-b, source-same}
use Rattle.reo_net.proofs.net.source_table.Goals as goal
use Rattle.reo_net.proofs.net.source_table.Goals.{then-not-comes_out_at_b, else-not-comes_out_at_b}

pub loop-channel-preserved : goal.loop-channel-preserved
loop-channel-preserved c =
    let xs = c.args.channels.now in
    let i = c.loop-channel.channel-index in
    let n = c.args.nodes in
    let table = c.loop-channel.table.items in
    let x = c.channel-item.result in
    let within = c.loop-channel-test.true in
    let read = c.channel-item.is in
    let here = slice_get_read xs (length xs) i x refl within read in
    let fits_a = All_read (λ channel. channel.a < n) xs i x c.requires.ends_a within read in
    let fits_b = All_read (λ channel. channel.b < n) xs i x c.requires.ends_b within read in
    let at_a = source-a xs table n i x here fits_a c.loop-channel.invariant in
    elim c.if-not-comes_out_at_b.branch [
      | then-not-comes_out_at_b w ↦ rw w.table-is (source-b xs (set table x.a true) n i x here at_a fits_b (sym c.comes_out_at_b.ensures ∙ w.if-not-comes_out_at_b.true))
      | else-not-comes_out_at_b w ↦ rw w.table-is (source-same xs (set table x.a true) n i x here at_a (sym c.comes_out_at_b.ensures ∙ w.if-not-comes_out_at_b.false))
    ]
