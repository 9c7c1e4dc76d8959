use Rattle.std.proofs.Common.{◌≡◌, ◌-◌, length, ap, ◌∙◌, arith}
use Rattle.reo_document.specs.Builder.{is_before}
use Rattle.reo_document.proofs.OwnerLemmas.{taken_by_owner}
use Rattle.reo_document.proofs.builder.Builder.is_taken.Goals as goal

pub returns : goal.returns
returns c =
    let scripts = c.args.self.now.scripts.items in
    let earlier : c.saturating_sub.result ≡ length c.args.self.now.scripts.items - 1 = omega (arith, c.saturating_sub.ensures, c.len.ensures, c.args.self.now.scripts.ok) in
    c.is_before.ensures ∙ ap (λ n. is_before n c.owner.result) earlier ∙ ap (is_before (length scripts - 1)) c.owner.ensures
    ∙ taken_by_owner scripts c.args.self.now.owners.items c.args.port c.requires.first
