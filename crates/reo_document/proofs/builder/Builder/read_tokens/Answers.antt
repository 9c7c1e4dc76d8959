use Rattle.std.proofs.Common.{length, refl, sym, subst, arith}
use Rattle.reo_sentence.specs.Said.{said}
use Rattle.reo_sentence.specs.ReadLine.{SaysIt, IsWrongAt, IsWide, IsLong, IsRefusedLine}
use Rattle.reo_sentence.specs.LineReading.{place_of}
use Rattle.reo_document.specs.declared.refusal.TextRefusal.TheVariants.{Syntax}
use Rattle.reo_document.specs.Spells.{Leads, Stops}
use Rattle.reo_document.specs.Builder.{data_of}
use Rattle.reo_document.proofs.ReadLemmas.{leads_wrong, leads_wide, leads_long, OnOk-same}
use Rattle.reo_document.proofs.RoomLemmas.{room_said, few_tokens, some_bytes}
use Rattle.reo_document.proofs.builder.Builder.read_tokens.Goals as goal

pub returns-in-Ok-clause-stops : goal.returns-in-Ok-clause-stops
returns-in-Ok-clause-stops c =
    c.stand.ensures.stops (data_of c.args.self.now)
    (record {
      tokens = c.args.tokens.now;
      cut_so = c.requires.cut;
      some = c.requires.some;
      says = subst (λ p. SaysIt p c.args.line.now c.args.tokens.now c.args.self.now.texts c.read_line.new.texts (said c.args.line.now c.in-Ok.sentence)) c.place-place.ensures c.in-Ok.ensures.says;
      same = refl;
    })

pub returns-in-Ok-clause-goes : goal.returns-in-Ok-clause-goes
returns-in-Ok-clause-goes c =
    c.stand.ensures.goes (data_of c.args.self.now)
    (record {
      tokens = c.args.tokens.now;
      cut_so = c.requires.cut;
      some = c.requires.some;
      says = subst (λ p. SaysIt p c.args.line.now c.args.tokens.now c.args.self.now.texts c.read_line.new.texts (said c.args.line.now c.in-Ok.sentence)) c.place-place.ensures c.in-Ok.ensures.says;
      same = refl;
    })

pub returns-in-Err-Syntax-clause-stops : goal.returns-in-Err-Syntax-clause-stops
returns-in-Err-Syntax-clause-stops c =
    subst (λ n. Leads (data_of c.args.self.now) c.args.number c.args.line.now (Stops (Syntax c.args.number n))) (sym c.in-Err-Syntax.column-is)
    (leads_wrong (data_of c.args.self.now) c.args.number c.args.line.now c.args.tokens.now c.in-Err-Syntax.column (record { is = c.requires.cut; some = c.requires.some }) (subst (λ p. IsWrongAt p c.args.line.now c.args.tokens.now c.in-Err-Syntax.column) c.place-place.ensures (subst (IsRefusedLine (place_of c.place-place.result) c.args.line.now c.args.tokens.now) c.in-Err-Syntax.field-0-is c.in-Err-Syntax.ensures.refused)))

pub returns-in-Err-NumberRange-clause-stops : goal.returns-in-Err-NumberRange-clause-stops
returns-in-Err-NumberRange-clause-stops c =
    leads_wide (data_of c.args.self.now) c.args.number c.args.line.now c.args.tokens.now (record { is = c.requires.cut; some = c.requires.some }) (subst (λ p. IsWide p c.args.line.now c.args.tokens.now) c.place-place.ensures (subst (IsRefusedLine (place_of c.place-place.result) c.args.line.now c.args.tokens.now) c.in-Err-NumberRange.field-0-is c.in-Err-NumberRange.ensures.refused))

pub returns-in-Err-TextLong-clause-stops : goal.returns-in-Err-TextLong-clause-stops
returns-in-Err-TextLong-clause-stops c =
    leads_long (data_of c.args.self.now) c.args.number c.args.line.now c.args.tokens.now (record { is = c.requires.cut; some = c.requires.some }) (subst (λ p. IsLong p c.args.line.now c.args.tokens.now) c.place-place.ensures (subst (IsRefusedLine (place_of c.place-place.result) c.args.line.now c.args.tokens.now) c.in-Err-TextLong.field-0-is c.in-Err-TextLong.ensures.refused))

pub returns-in-Ok-clause-room : goal.returns-in-Ok-clause-room
returns-in-Ok-clause-room c =
    OnOk-same c.stand.result c.stand.result refl
    (λ added. room_said (data_of c.args.self.now) (data_of c.stand.new.self) c.read_line.new.texts (said c.args.line.now c.in-Ok.sentence) (length c.args.tokens.now) (length c.args.line.now) added c.in-Ok.ensures.few (few_tokens c.args.line.now c.args.tokens.now c.requires.cut c.requires.within)) c.stand.ensures.exact

pub read_line-requires-clause-room : goal.read_line-requires-clause-room
read_line-requires-clause-room c = omega (arith, c.requires.room.texts, few_tokens c.args.line.now c.args.tokens.now c.requires.cut c.requires.within)

pub stand-requires-clause-nodes : goal.stand-requires-clause-nodes
stand-requires-clause-nodes c =
    omega (arith, c.requires.room.nodes, some_bytes c.args.line.now c.args.tokens.now (few_tokens c.args.line.now c.args.tokens.now c.requires.cut c.requires.within) c.requires.some)
