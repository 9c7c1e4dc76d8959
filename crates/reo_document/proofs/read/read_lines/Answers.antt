use Rattle.std.proofs.Common.{None, Some, subst}
use Rattle.std.specs.Option.{option_copied}
use Rattle.reo_document.specs.Builder.{data_of}
use Rattle.reo_document.specs.Lines.{lines_of}
use Rattle.reo_document.specs.Reading.{StopsIn, GoesPast}
use Rattle.reo_document.proofs.ReadLemmas.{leads_next, leads_last, leads_stops, passed_on}
use Rattle.reo_document.proofs.read.read_lines.Goals as goal

pub returns-in_err-more-clause-stops : goal.returns-in_err-more-clause-stops
returns-in_err-more-clause-stops c =
    passed_on c.from_residual.result c.in_err-more.field-0.0 (StopsIn (data_of c.args.builder.now) 1 (lines_of c.args.bytes.now)) c.from_residual.ensures.1
    (leads_stops (data_of c.args.builder.now) (data_of c.lines.builder) c.args.bytes.now c.lines.rest.now c.lines.number c.in_err-more.field-0.0 c.lines.invariant.on c.in_err-more.ensures.stops)

pub returns-in_default-clause-goes : goal.returns-in_default-clause-goes
returns-in_default-clause-goes c =
    let past : GoesPast (data_of c.lines.builder) c.lines.number c.lines.rest.now (data_of c.read_next.new.self) None =
    subst (λ m. GoesPast (data_of c.lines.builder) c.lines.number c.lines.rest.now (data_of c.read_next.new.self) (option_copied m)) c.in_default.is c.in_ok-more.ensures.goes in
    leads_last (data_of c.args.builder.now) (data_of c.lines.builder) (data_of c.read_next.new.self) c.args.bytes.now c.lines.rest.now past.line c.lines.number c.lines.invariant.on past.exact past.goes

pub lines-preserved : goal.lines-preserved
lines-preserved c =
    let past : GoesPast (data_of c.lines.builder) c.lines.number c.lines.rest.now (data_of c.read_next.new.self) (Some c.in-Some.more.now) =
    subst (λ m. GoesPast (data_of c.lines.builder) c.lines.number c.lines.rest.now (data_of c.read_next.new.self) (option_copied m)) c.in-Some.is c.in_ok-more.ensures.goes in
    record {
      on =
          leads_next (data_of c.args.builder.now) (data_of c.lines.builder) (data_of c.read_next.new.self) c.args.bytes.now c.lines.rest.now past.line c.in-Some.more.now c.lines.number c.lines.invariant.on
          past.exact past.fewer past.goes c.in_ok-more.ensures.lines;
      scripts = c.in_ok-more.ensures.scripts;
      ports = c.in_ok-more.ensures.ports;
      room = past.room;
      utf8 = past.utf8;
    }
