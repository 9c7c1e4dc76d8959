use Rattle.std.proofs.Common.{length, IsUtf8}
use Rattle.reo_document.specs.Builder.{data_of, HasRoom, KnowsScripts, KnowsPorts}
use Rattle.reo_document.proofs.ReadLemmas.{LeadsOn}
use Rattle.reo_document.proofs.read.read_lines.Given as goal

abbrev pub invariant-lines : goal.invariant-lines
invariant-lines l = record {
  on : LeadsOn (data_of l.fn.builder) l.bytes (data_of l.builder) l.rest l.number;
  scripts : KnowsScripts l.builder;
  ports : KnowsPorts l.builder;
  room : HasRoom (data_of l.builder) (length l.rest);
  utf8 : IsUtf8 l.rest;
}

abbrev pub decreases-lines : goal.decreases-lines
decreases-lines l = length l.rest
