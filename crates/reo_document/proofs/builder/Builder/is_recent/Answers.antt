use Rattle.std.proofs.Common.{◌<◌, length, sym, ◌∙◌, arith}
use Rattle.std.proofs.lemmas.Slice.Eq.{bytes_eq-Decides}
use Rattle.reo_document.proofs.BuilderLemmas.{stands_at}
use Rattle.reo_document.proofs.builder.Builder.is_recent.Goals as goal

pub returns-then-self-len : goal.returns-then-self-len
returns-then-self-len c = λ same.
    let within : c.args.self.now.recent < length c.args.self.now.nodes = omega (arith, c.if-self-len.true, c.len.ensures.len) in
    stands_at c.args.self.now.nodes c.args.name.now c.args.self.now.recent c.len.ensures.distinct within
    (sym ((bytes_eq-Decides c.as_bytes.result.now c.args.name.now).0 (sym c.eq.ensures ∙ same)) ∙ c.as_bytes.ensures.value ∙ c.text_or_empty.ensures.text)
