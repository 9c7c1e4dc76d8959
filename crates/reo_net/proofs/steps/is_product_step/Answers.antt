use Rattle.std.proofs.Common.{ap, sym, ◌∙◌, List, count_by}
use Rattle.std.proofs.lemmas.Bool.{false≢true, both_ways}
use Rattle.reo_net.specs.declared.circuit.Channel.{Channel}
use Rattle.reo_net.specs.Kind.{is_fifo}
use Rattle.reo_net.proofs.steps.is_product_step.Goals as goal
use Rattle.reo_net.proofs.steps.is_product_step.Goals.{then-old-cells-via-then-old-cells, then-old-cells-via-else-old-cells+then-new-cells, then-old-cells-via-else-old-cells+else-new-cells+then-not-is_step}

pub returns-then-old-cells : goal.returns-then-old-cells
returns-then-old-cells c =
    let net = c.args.net.now in
    let cells = c.fifos_in-cells.ensures ∙ ap (λ (channels : List Channel). count_by (λ channel. is_fifo channel.kind) channels) c.channels.ensures.channels in (
      λ e. absurd (false≢true e),
      λ product. absurd (elim c.then-old-cells.branch [
        | then-old-cells-via-then-old-cells w ↦ w.if-old-cells.true (product.was_state ∙ sym cells)
        | then-old-cells-via-else-old-cells+then-new-cells w ↦ w.if-new-cells.true (product.is_state ∙ sym cells)
        | then-old-cells-via-else-old-cells+else-new-cells+then-not-is_step w ↦ both_ways w.is_step.result w.if-not-is_step.true (w.is_step.ensures.1 product.is_step)
      ]),
    )

pub returns-then-channels_allow : goal.returns-then-channels_allow
returns-then-channels_allow c =
    let net = c.args.net.now in
    let cells = c.fifos_in-cells.ensures ∙ ap (λ (channels : List Channel). count_by (λ channel. is_fifo channel.kind) channels) c.channels.ensures.channels in (
      λ e. record {
        is_step = c.is_step.ensures.0 c.if-not-is_step.false;
        was_state = c.if-old-cells.false ∙ cells;
        is_state = c.if-new-cells.false ∙ cells;
        channels = c.channels_allow.ensures.0 c.if-channels_allow.true;
        nodes = c.nodes_allow.ensures.0 e;
      },
      λ product. c.nodes_allow.ensures.1 product.nodes,
    )
