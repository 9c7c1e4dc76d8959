use Rattle.std.proofs.Common.{length, ap, arith, refl, below_more, ⊎_elim}
use Rattle.std.proofs.lemmas.Bool.{cases_lt}
use Rattle.reo_net.specs.Steps.{datum, ChannelAllows}
use Rattle.reo_net.proofs.StepLemmas.{allows_past}
use Rattle.reo_net.proofs.steps.channels_allow.Goals as goal

pub loop-number-preserved : goal.loop-number-preserved
loop-number-preserved c =
    below_more (λ k. ChannelAllows c.args.net.now c.args.texts.now k c.args.old.now (datum c.args.step.now) c.args.new.now) c.loop-number.number c.loop-number.invariant (c.channel_allows.ensures.0 c.if-not-channel_allows.false)

pub returns : goal.returns
returns c =
    let all = ap length c.channels-number-end.ensures.channels in (
      λ e k.
          ⊎_elim (λ below. c.loop-number.invariant k below) (λ past. allows_past c.args.net.now c.args.texts.now k c.args.old.now (datum c.args.step.now) c.args.new.now (omega (arith, all, past))) (cases_lt k c.loop-number.number),
      λ all. refl,
    )
