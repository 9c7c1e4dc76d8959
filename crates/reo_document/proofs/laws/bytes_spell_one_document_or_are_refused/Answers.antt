use Rattle.reo_document.proofs.SpellLemmas.{spell_or_are_refused, one_document, refused_alone, refused_once}
use Rattle.reo_document.proofs.laws.bytes_spell_one_document_or_are_refused.Goals as goal

pub returns-clause-either : goal.returns-clause-either
returns-clause-either c = spell_or_are_refused

pub returns-clause-one : goal.returns-clause-one
returns-clause-one c = one_document

pub returns-clause-alone : goal.returns-clause-alone
returns-clause-alone c = refused_alone

pub returns-clause-once : goal.returns-clause-once
returns-clause-once c = refused_once
