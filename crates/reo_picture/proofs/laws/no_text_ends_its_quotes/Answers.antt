use Rattle.reo_picture.proofs.QuoteLemmas.{quotes_hold}
use Rattle.reo_picture.proofs.laws.no_text_ends_its_quotes.Goals as goal

pub returns : goal.returns
returns c = quotes_hold
