-- What is written of a function are its tokens.
use Rattle.std.proofs.Common.{◌≡◌, ℕ, false, ◌||◌, List, [], ◌∷◌, ◌++◌, codes, flat_map, refl, sym, append_assoc, append-nil}
use Rattle.std.proofs.lemmas.Bool.{or_parts}
use Rattle.reo_token.specs.declared.token.Symbol.TheVariants as sign
use Rattle.reo_grammar.specs.declared.key.Key.TheVariants as key
use Rattle.reo_grammar.specs.Token.{Token, Number, Sign, Const, const_token, word}
use Rattle.reo_grammar.specs.Functions.{Add, Sub, Mul, Neg, Len, Map, pair_tokens, further_tokens, pairs_tokens}
use Rattle.reo_sentence.specs.Limits.{is_wide_const, are_wide_pairs}
use Rattle.reo_sentence.specs.Numbered.{numbered_const, numbered_pair, numbered_pairs}
use Rattle.reo_trace.specs.ReportText.{value_text}
use Rattle.reo_print.specs.Canonical.{pair_text, next_text, pairs_text}
use Rattle.reo_print.specs.Trees.{AreSpellable, Extends, Writes, FunctionsAreWritten}
use Rattle.reo_print.proofs.TreeLemmas.{spellable_parts}
use Rattle.reo_print.proofs.WriteLemmas.{writes_as, writes_token, writes_then, writes_behind, writes_between, writes_comma}
use Rattle.reo_print.proofs.TextPlaceLemmas.{extends_through, const_extends, pairs_extend}
use Rattle.reo_print.proofs.GuardWriteLemmas.{integer_written, const_writes}

pair_writes : (pair : Const × Const) (known texts : List (List ℕ)) → Extends (numbered_pair pair known).0 texts → AreSpellable (pair_tokens pair)
    → (is_wide_const pair.0 || is_wide_const pair.1) ≡ false → Writes (pair_text texts (numbered_pair pair known).1) (pair_tokens pair)
pair_writes pair known texts extends can narrow =
    let parts = or_parts (is_wide_const pair.0) (is_wide_const pair.1) narrow in
    let between = (numbered_const pair.0 known).0 in
    writes_between (Sign sign.Arrow) (value_text texts (numbered_const pair.0 known).1) (value_text texts (numbered_const pair.1 between).1) (const_token pair.0 ∷ []) (const_token pair.1 ∷ []) tt
    (const_writes pair.0 known texts (extends_through between (numbered_const pair.1 between).0 texts (const_extends pair.1 between) extends) can.0 parts.0)
    (const_writes pair.1 between texts extends can.1.1.0 parts.1)

-- pairs behind others
further_writes : (pairs : List (Const × Const)) (known texts : List (List ℕ)) (bytes : List ℕ) (tokens : List Token) → Extends (numbered_pairs pairs known).0 texts → AreSpellable (further_tokens pairs)
    → are_wide_pairs pairs ≡ false → Writes bytes tokens → Writes (bytes ++ flat_map (next_text texts) (numbered_pairs pairs known).1) (tokens ++ further_tokens pairs)
unfolding numbered_pairs further_tokens are_wide_pairs
further_writes [] known texts bytes tokens extends can narrow front =
    writes_as bytes (bytes ++ []) tokens (tokens ++ []) (sym (append-nil bytes)) (sym (append-nil tokens)) front
further_writes (pair ∷ pairs) known texts bytes tokens extends can narrow front =
    let between = (numbered_pair pair known).0 in
    let first = pair_text texts (numbered_pair pair known).1 in
    let rest = flat_map (next_text texts) (numbered_pairs pairs between).1 in
    let parts = or_parts (is_wide_const pair.0 || is_wide_const pair.1) (are_wide_pairs pairs) narrow in
    let spelled = spellable_parts (pair_tokens pair) (further_tokens pairs) can.1 in
    let here = pair_writes pair known texts (extends_through between (numbered_pairs pairs between).0 texts (pairs_extend pairs between) extends) spelled.0 parts.0 in
    writes_as ((bytes ++ (codes ", " ++ first)) ++ rest) (bytes ++ ((codes ", " ++ first) ++ rest))
    ((tokens ++ Sign sign.Comma ∷ pair_tokens pair) ++ further_tokens pairs) (tokens ++ (Sign sign.Comma ∷ (pair_tokens pair ++ further_tokens pairs)))
    (append_assoc bytes (codes ", " ++ first) rest) (append_assoc tokens (Sign sign.Comma ∷ pair_tokens pair) (further_tokens pairs))
    (further_writes pairs between texts (bytes ++ (codes ", " ++ first)) (tokens ++ Sign sign.Comma ∷ pair_tokens pair) extends spelled.1 parts.1
    (writes_comma bytes first tokens (pair_tokens pair) front here))

pairs_write : (pairs : List (Const × Const)) (known texts : List (List ℕ)) → Extends (numbered_pairs pairs known).0 texts → AreSpellable (pairs_tokens pairs ++ Sign sign.CloseBrace ∷ [])
    → are_wide_pairs pairs ≡ false → Writes (pairs_text texts (numbered_pairs pairs known).1) (word key.Map ∷ Sign sign.OpenBrace ∷ (pairs_tokens pairs ++ Sign sign.CloseBrace ∷ []))
unfolding numbered_pairs are_wide_pairs
pairs_write [] known texts extends can narrow =
    writes_behind (word key.Map) (codes "{ }") _ refl (writes_behind (Sign sign.OpenBrace) (codes "}") _ tt (writes_token (Sign sign.CloseBrace) tt))
pairs_write (pair ∷ pairs) known texts extends can narrow =
    let between = (numbered_pair pair known).0 in
    let first = pair_text texts (numbered_pair pair known).1 in
    let rest = flat_map (next_text texts) (numbered_pairs pairs between).1 in
    let parts = or_parts (is_wide_const pair.0 || is_wide_const pair.1) (are_wide_pairs pairs) narrow in
    let inner = spellable_parts (pair_tokens pair ++ further_tokens pairs) (Sign sign.CloseBrace ∷ []) can in
    let spelled = spellable_parts (pair_tokens pair) (further_tokens pairs) inner.0 in
    let here = pair_writes pair known texts (extends_through between (numbered_pairs pairs between).0 texts (pairs_extend pairs between) extends) spelled.0 parts.0 in
    let all = further_writes pairs between texts first (pair_tokens pair) extends spelled.1 parts.1 here in
    writes_behind (word key.Map) _ _ refl
    (writes_behind (Sign sign.OpenBrace) ((first ++ rest) ++ codes " }") _ tt
    (writes_then (first ++ rest) (codes "}") (pair_tokens pair ++ further_tokens pairs) (Sign sign.CloseBrace ∷ []) all (writes_token (Sign sign.CloseBrace) tt)))

pub function_writes : FunctionsAreWritten
function_writes (Add more) known texts extends can narrow = writes_behind (Sign sign.Plus) _ _ tt (writes_token (Number more) (integer_written more narrow))
function_writes (Sub less) known texts extends can narrow = writes_behind (Sign sign.Minus) _ _ tt (writes_token (Number less) (integer_written less narrow))
function_writes (Mul factor) known texts extends can narrow = writes_behind (Sign sign.Star) _ _ tt (writes_token (Number factor) (integer_written factor narrow))
function_writes Neg known texts extends can narrow = writes_token (word key.Neg) refl
function_writes Len known texts extends can narrow = writes_token (word key.Len) refl
function_writes (Map pairs) known texts extends can narrow = pairs_write pairs known texts extends can.1.1 narrow
