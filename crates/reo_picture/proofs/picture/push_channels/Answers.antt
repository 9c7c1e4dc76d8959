use Rattle.std.proofs.Common.{sym}
use Rattle.reo_picture.specs.Picture.{ended, channel_line}
use Rattle.reo_picture.proofs.AddsLemmas.{numbered_next}
use Rattle.reo_picture.proofs.picture.push_channels.Goals as goal

pub loop-number-preserved : goal.loop-number-preserved
loop-number-preserved c =
    numbered_next (λ number channel. ended (channel_line c.args.texts.now number channel)) _ _ _ _ _ c.index-channels-number.result _ c.loop-number-test.true (sym c.index-channels-number.is) c.loop-number.invariant
    c.in_ok-push_channel.ensures
