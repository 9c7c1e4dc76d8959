use Rattle.std.proofs.Common.{length}
use Rattle.std.proofs.lemmas.Str.{IsUtf8-had}
use Rattle.reo_token.specs.Cut.{IsWithin}
use Rattle.reo_sentence.specs.Seen.{IsQuoted}
use Rattle.reo_sentence.proofs.ListLemmas.{All-first}
use Rattle.reo_sentence.proofs.QuoteLemmas.{between_quotes}
use Rattle.reo_sentence.proofs.cursor.Cursor.next_text.Goals as goal

pub returns-in-Text-clause-utf8 : goal.returns-in-Text-clause-utf8
returns-in-Text-clause-utf8 c =
    let line = c.args.self.now.line.now in
    let rest = c.args.self.now.rest.now in
    let token = c.in_ok-token.token.now in
    between_quotes line token (IsUtf8-had line c.args.self.now.utf8) (All-first (IsWithin (length line)) rest token c.args.self.now.within c.in_ok-token.ensures.value)
    (All-first (IsQuoted line) rest token c.args.self.now.quoted c.in_ok-token.ensures.value) c.in-Text.is
