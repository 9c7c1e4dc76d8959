use Rattle.std.proofs.Common.{◌+◌, ◌≤◌, length, arith, sym, ap, subst, ◌∙◌}
use Rattle.reo_token.specs.Cut.{IsEndWithin}
use Rattle.reo_document.specs.Builder.{data_of}
use Rattle.reo_document.proofs.ReadLemmas.{leads_bad, leads_large, leads_on, no_items}
use Rattle.reo_document.proofs.RoomLemmas.{room_less}
use Rattle.reo_document.proofs.builder.Builder.read.Goals as goal

pub overflow_add-result : goal.overflow_add-result
overflow_add-result c =
    let within : c.in-Bad.at ≤ length c.args.line.now = subst (IsEndWithin (length c.args.line.now)) c.in-Bad.is c.in-Ok.ensures.end in
    omega (arith, within, c.requires.short)

pub returns-then-is_empty-clause-goes : goal.returns-then-is_empty-clause-goes
returns-then-is_empty-clause-goes c =
    leads_on (data_of c.args.self.now) c.args.number c.args.line.now c.cut_line.new.tokens.items (ap (λ e. (c.cut_line.new.tokens.items, e)) (sym c.in-Over.is) ∙ c.in-Ok.ensures.exact) (sym c.as_slice-tokens.ensures.value ∙ no_items c.as_slice-tokens.result.now c.is_empty.result c.is_empty.ensures c.if-is_empty.true)

pub returns-in-Bad-clause-stops : goal.returns-in-Bad-clause-stops
returns-in-Bad-clause-stops c =
    leads_bad (data_of c.args.self.now) c.args.number c.args.line.now c.cut_line.new.tokens.items c.in-Bad.at (ap (λ e. (c.cut_line.new.tokens.items, e)) (sym c.in-Bad.is) ∙ c.in-Ok.ensures.exact)

pub returns-in-Large-clause-stops : goal.returns-in-Large-clause-stops
returns-in-Large-clause-stops c =
    leads_large (data_of c.args.self.now) c.args.number c.args.line.now c.cut_line.new.tokens.items (ap (λ e. (c.cut_line.new.tokens.items, e)) (sym c.in-Large.is) ∙ c.in-Ok.ensures.exact)

pub returns-then-is_empty-clause-room : goal.returns-then-is_empty-clause-room
returns-then-is_empty-clause-room c =
    λ more room. room_less (data_of c.args.self.now) (length c.args.line.now + 1 + more) more (omega arith) room
