use Rattle.std.proofs.Common.{subst}
use Rattle.reo_document.specs.Document.{IsDocument}
use Rattle.reo_document.proofs.DocumentLemmas.{spelled_document}
use Rattle.reo_document.proofs.document.Document.scripts.Goals as goal

pub returns-clause-document : goal.returns-clause-document
returns-clause-document c = subst IsDocument c.self.view_is (spelled_document c.self.invariant.bytes _ c.self.invariant.spells)
