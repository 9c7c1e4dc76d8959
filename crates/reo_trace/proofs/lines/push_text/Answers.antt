use Rattle.std.proofs.Common.{sym, subst, ◌∙◌}
use Rattle.reo_trace.specs.Buffer.{Takes}
use Rattle.reo_trace.proofs.EscapeLemmas.{plain_bytes}
use Rattle.reo_trace.proofs.lines.push_text.Goals as goal

pub returns-then-are_plain : goal.returns-then-are_plain
returns-then-are_plain c =
    subst (λ l. Takes c.args.buffer.now c.push_bytes.new.buffer c.push_bytes.result l) (sym (plain_bytes c.args.bytes.now (sym c.are_plain.ensures ∙ c.if-are_plain.true))) c.push_bytes.ensures
