use Rattle.std.proofs.Common.{◌≡◌, ◌+◌, ◌*◌, not, length, slice_get, List, Some, None, sym, ap, ◌∙◌, subst, is_some}
use Rattle.std.proofs.lemmas.Bool.{false≢true}
use Rattle.std.proofs.lemmas.Option.{slice_get_read}
use Rattle.reo_net.specs.declared.circuit.Channel.{Channel}
use Rattle.reo_net.specs.declared.circuit.Port.{Port}
use Rattle.reo_net.proofs.StepLemmas.{none_from, allows_quiet, quiet_allows, allows_move, move_allows}
use Rattle.reo_net.proofs.steps.channel_allows.Goals as goal
use Rattle.reo_net.proofs.steps.channel_allows.Goals.{else-is_none-via-then-is_none+else-is_none-2, else-is_none-via-else-is_none}

pub returns-then-is_none-2 : goal.returns-then-is_none-2
returns-then-is_none-2 c =
    let net = c.args.net.now in
    let k = c.args.number in
    let channel = c.index-channels-number.result in
    let found = subst (λ (channels : List Channel). slice_get channels k ≡ Some channel) c.channels.ensures.channels (slice_get_read c.channels.result.now (length net.channels) k channel (sym (ap length c.channels.ensures.channels)) c.requires c.index-channels-number.is) in
    let named = ap (λ (ports : List Port). length ports + 2 * k) c.ports.ensures.ports in
    let no_a = none_from c.datum_at-a.result c.if-is_none.ensures in
    let no_b = none_from c.datum_at-b.result c.if-is_none-2.ensures in (
      λ e. allows_quiet net c.args.texts.now k channel found c.args.old.now c.args.step.now c.args.new.now _ named c.datum_at-a.result c.datum_at-b.result c.content-was.result c.content-is.result c.datum_at-a.ensures c.datum_at-b.ensures c.content-was.ensures c.content-is.ensures no_a no_b (c.same.ensures.0 e),
      λ allows. c.same.ensures.1 (quiet_allows net c.args.texts.now k channel found c.args.old.now c.args.step.now c.args.new.now _ named c.datum_at-a.result c.datum_at-b.result c.content-was.result c.content-is.result c.datum_at-a.ensures c.datum_at-b.ensures c.content-was.ensures c.content-is.ensures no_a no_b allows),
    )

pub returns-else-is_none : goal.returns-else-is_none
returns-else-is_none c =
    let net = c.args.net.now in
    let k = c.args.number in
    let channel = c.index-channels-number.result in
    let found = subst (λ (channels : List Channel). slice_get channels k ≡ Some channel) c.channels.ensures.channels (slice_get_read c.channels.result.now (length net.channels) k channel (sym (ap length c.channels.ensures.channels)) c.requires c.index-channels-number.is) in
    let named = ap (λ (ports : List Port). length ports + 2 * k) c.ports.ensures.ports in
    let busy : c.datum_at-a.result ≡ None → c.datum_at-b.result ≡ None → ⊥ = λ no_a no_b.
    elim c.else-is_none.branch [
      | else-is_none-via-then-is_none+else-is_none-2 w ↦ false≢true (sym (ap is_some no_b) ∙ (w.is_none-then-is_none.ensures ∙ ap not w.if-is_none-2.false))
      | else-is_none-via-else-is_none w ↦ false≢true (sym (ap is_some no_a) ∙ (c.is_none.ensures ∙ ap not w.if-is_none.false))
    ] in (
      λ e. allows_move net c.args.texts.now k channel found c.args.old.now c.args.step.now c.args.new.now _ named c.datum_at-a.result c.datum_at-b.result c.content-was.result c.content-is.result c.datum_at-a.ensures c.datum_at-b.ensures c.content-was.ensures c.content-is.ensures (c.allows.ensures.0 e),
      λ allows. c.allows.ensures.1 (move_allows net c.args.texts.now k channel found c.args.old.now c.args.step.now c.args.new.now _ named c.datum_at-a.result c.datum_at-b.result c.content-was.result c.content-is.result c.datum_at-a.ensures c.datum_at-b.ensures c.content-was.ensures c.content-is.ensures busy allows),
    )
