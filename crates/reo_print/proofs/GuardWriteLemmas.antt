-- What is written of a guard are the tokens of its trees.
use Rattle.std.proofs.Common.{◌≡◌, ℕ, ℤ, pos, negsuc, nat_abs, ◌-◌, ◌<◌, ◌≤◌, ◌^◌, nat_le, Bool, true, false, not, ◌&&◌, List, [], ◌∷◌, ◌++◌, codes, decimal, Option, Some, None, is_none, unwrap_or, refl, sym, ap, subst, ◌∙◌, arith}
use Rattle.std.specs.Prelude.{if◌then◌else◌, nat_lt}
use Rattle.std.specs.Option.{option_map, option_and_then}
use Rattle.std.proofs.lemmas.Bool.{and_parts, or_parts, leb-true, ltb-true, false≢true}
use Rattle.std.proofs.lemmas.Option.{none-some, same_Some}
use Rattle.reo_token.specs.declared.token.Symbol.TheVariants as sign
use Rattle.reo_value.specs.Lexicon.{added}
use Rattle.reo_value.specs.declared.value.Value.{Value}
use Rattle.reo_value.specs.declared.value.Value.TheVariants.{Sym}
use Rattle.reo_guard.specs.declared.guard.Cmp.{Cmp}
use Rattle.reo_guard.specs.declared.guard.Cmp.TheVariants.{Eq, Ne, Lt, Le, Gt, Ge}
use Rattle.reo_guard.specs.declared.guard.Guard as numbered
use Rattle.reo_guard.specs.declared.guard.Guard.TheVariants as guard
use Rattle.reo_guard.specs.declared.guard.Guard.TheOpen.{Guard-F}
use Rattle.reo_guard.specs.declared.guard.Guard.TheFolds.{fold-roll-Guard}
use Rattle.reo_grammar.specs.declared.key.Key.TheVariants as key
use Rattle.reo_grammar.specs.Token.{Token, Number, Text, Sign, Const, Integer, Phrase, const_token, word}
use Rattle.reo_grammar.specs.Guards.{Atom, Compare, Mod, IsInt, IsText, LenAtMost, Starts, atom_tokens, sign_of, guard_tokens, Guard, Test, Both, Either, Fails}
use Rattle.reo_sentence.specs.Limits.{is_number, natural_in, small_remainder, small_length, is_wide_const, is_wide_atom, is_wide_guard}
use Rattle.reo_sentence.specs.Numbered.{number_in, numbered_const, mod_guard, numbered_atom, numbered_guard}
use Rattle.reo_trace.specs.ReportText.{value_text}
use Rattle.reo_print.specs.declared.guard.Level.{Level}
use Rattle.reo_print.specs.declared.guard.Level.TheVariants.{AsGuard, AsTerm, AsFactor}
use Rattle.reo_print.specs.Canonical.{cmp_text, layer_text, guard_text}
use Rattle.reo_print.specs.Tokens.{written, CanBeWritten}
use Rattle.reo_print.specs.Trees.{trees_of, tokens_at, IsSpellable, AreSpellable, HasSpellableAtoms, Extends, Writes, GuardsAreWritten}
use Rattle.reo_print.proofs.WriteLemmas.{writes_token, writes_behind, writes_between, writes_brackets, writes_nothing_more}
use Rattle.reo_print.proofs.TextPlaceLemmas.{extends_through, text_numbered, guard_extends}

-- a number in its range has at most 64 bits
number_small : (z : ℤ) → not (is_number z) ≡ false → nat_abs z < 2 ^ 64
number_small (pos n) is = by (nat_lt n 4611686018427387904) refl is
  where
    by : (low : Bool) → nat_lt n 4611686018427387904 ≡ low → not low ≡ false → n < 2 ^ 64
    by true low is = omega (arith, ltb-true n 4611686018427387904 low)
    by false low is = absurd (false≢true (sym is))
number_small (negsuc n) is = by (nat_lt n 4611686018427387904) refl is
  where
    by : (low : Bool) → nat_lt n 4611686018427387904 ≡ low → not low ≡ false → nat_abs (negsuc n) < 2 ^ 64
    by true low is = omega (arith, ltb-true n 4611686018427387904 low)
    by false low is = absurd (false≢true (sym is))

pub integer_written : (z : ℤ) → not (is_number z) ≡ false → CanBeWritten (Number z)
integer_written z is = number_small z is

const_written : (constant : Const) → IsSpellable (const_token constant) → is_wide_const constant ≡ false → CanBeWritten (const_token constant)
const_written (Integer z) can narrow = number_small z narrow
const_written (Phrase text) can narrow = can

-- what is written of a constant is its token
const_text : (constant : Const) (known texts : List (List ℕ)) → Extends (numbered_const constant known).0 texts → written (const_token constant) ≡ value_text texts (numbered_const constant known).1
const_text (Integer z) known texts extends = refl
const_text (Phrase text) known texts extends = ap (λ t. written (Text t)) (sym (text_numbered known texts text extends))

pub const_writes : (constant : Const) (known texts : List (List ℕ)) → Extends (numbered_const constant known).0 texts → IsSpellable (const_token constant) → is_wide_const constant ≡ false
    → Writes (value_text texts (numbered_const constant known).1) (const_token constant ∷ [])
const_writes constant known texts extends can narrow =
    subst (λ bytes. Writes bytes (const_token constant ∷ [])) (const_text constant known texts extends) (writes_token (const_token constant) (const_written constant can narrow))

-- a natural number between two
record IsNatural (most : ℕ) (z : ℤ) (n : ℕ) : Type 0 where
  is : z ≡ pos n
  small : n ≤ most

natural_is : (least most : ℕ) (z : ℤ) (n : ℕ) → natural_in least most z ≡ Some n → IsNatural most z n
natural_is least most (pos k) n is = by (nat_le least k && nat_le k most) refl is
  where
    by : (within : Bool) → (nat_le least k && nat_le k most) ≡ within → (if within then Some k else None) ≡ Some n → IsNatural most (pos k) n
    by true within found =
        let same : k ≡ n = same_Some k n found in
        record { is = ap pos same; small = omega (arith, same, leb-true k most (and_parts (nat_le least k) (nat_le k most) within).1) }
    by false within found = absurd (none-some n found)
natural_is least most (negsuc k) n is = absurd (none-some n is)

some_is : {A : Type 0} (o : Option A) → is_none o ≡ false → (x : A) × (o ≡ Some x)
some_is None is = absurd (false≢true (sym is))
some_is (Some x) is = (x, refl)

-- the two numbers of a remainder test
record IsRemainder (divisor remainder : ℤ) : Type 0 where
  d : ℕ
  r : ℕ
  parts : small_remainder divisor remainder ≡ Some (d, r)
  divisor_is : IsNatural 1000000 divisor d
  remainder_is : IsNatural (d - 1) remainder r

remainder_is : (divisor remainder : ℤ) → is_none (small_remainder divisor remainder) ≡ false → IsRemainder divisor remainder
remainder_is divisor remainder some = by (natural_in 1 1000000 divisor) refl some
  where
    by_second : (d : ℕ) → natural_in 1 1000000 divisor ≡ Some d → (second : Option ℕ) → natural_in 0 (d - 1) remainder ≡ second → is_none {T = ℕ × ℕ} (option_map (λ r. (d, r)) second) ≡ false → IsRemainder divisor remainder
    by_second d first None is some = absurd (false≢true (sym some))
    by_second d first (Some r) is some = record {
      d = d;
      r = r;
      parts = ap (option_and_then {U = ℕ × ℕ} (λ d. option_map (λ r. (d, r)) (natural_in 0 (d - 1) remainder))) first ∙ ap (option_map {U = ℕ × ℕ} (λ r. (d, r))) is;
      divisor_is = natural_is 1 1000000 divisor d first;
      remainder_is = natural_is 0 (d - 1) remainder r is;
    }

    by : (first : Option ℕ) → natural_in 1 1000000 divisor ≡ first → is_none {T = ℕ × ℕ} (option_and_then (λ d. option_map (λ r. (d, r)) (natural_in 0 (d - 1) remainder)) first) ≡ false
        → IsRemainder divisor remainder
    by None is some = absurd (false≢true (sym some))
    by (Some d) is some = by_second d is (natural_in 0 (d - 1) remainder) refl some

-- what is written of one layer
module _ (texts : List (List ℕ)) (level : Level) where
  text_Compare : (cmp : Cmp) (constant : Value) → guard_text texts (guard.Compare cmp constant) level ≡ layer_text texts (Guard-F.Compare cmp constant) level
  text_Compare cmp constant =
      ap (λ g. guard_text texts g level) (sym (guard.rolls-Compare cmp constant)) ∙ ap (λ f. f level) (fold-roll-Guard (Level → List ℕ) (layer_text texts) (Guard-F.Compare cmp constant))

  text_Mod : (divisor remainder : ℕ) → guard_text texts (guard.Mod divisor remainder) level ≡ layer_text texts (Guard-F.Mod divisor remainder) level
  text_Mod divisor remainder =
      ap (λ g. guard_text texts g level) (sym (guard.rolls-Mod divisor remainder)) ∙ ap (λ f. f level) (fold-roll-Guard (Level → List ℕ) (layer_text texts) (Guard-F.Mod divisor remainder))

  text_IsInt : guard_text texts guard.IsInt level ≡ codes "is int"
  text_IsInt = ap (λ g. guard_text texts g level) (sym guard.rolls-IsInt) ∙ ap (λ f. f level) (fold-roll-Guard (Level → List ℕ) (layer_text texts) Guard-F.IsInt)

  text_IsText : guard_text texts guard.IsText level ≡ codes "is text"
  text_IsText = ap (λ g. guard_text texts g level) (sym guard.rolls-IsText) ∙ ap (λ f. f level) (fold-roll-Guard (Level → List ℕ) (layer_text texts) Guard-F.IsText)

  text_LenAtMost : (most : ℕ) → guard_text texts (guard.LenAtMost most) level ≡ layer_text texts (Guard-F.LenAtMost most) level
  text_LenAtMost most =
      ap (λ g. guard_text texts g level) (sym (guard.rolls-LenAtMost most)) ∙ ap (λ f. f level) (fold-roll-Guard (Level → List ℕ) (layer_text texts) (Guard-F.LenAtMost most))

  text_Starts : (front : ℕ) → guard_text texts (guard.Starts front) level ≡ layer_text texts (Guard-F.Starts front) level
  text_Starts front =
      ap (λ g. guard_text texts g level) (sym (guard.rolls-Starts front)) ∙ ap (λ f. f level) (fold-roll-Guard (Level → List ℕ) (layer_text texts) (Guard-F.Starts front))

  text_And : (left right : numbered.Guard) → guard_text texts (guard.And left right) level ≡ layer_text texts (Guard-F.And (guard_text texts left) (guard_text texts right)) level
  text_And left right =
      ap (λ g. guard_text texts g level) (sym (guard.rolls-And left right)) ∙ ap (λ f. f level) (fold-roll-Guard (Level → List ℕ) (layer_text texts) (Guard-F.And left right))

  text_Or : (left right : numbered.Guard) → guard_text texts (guard.Or left right) level ≡ layer_text texts (Guard-F.Or (guard_text texts left) (guard_text texts right)) level
  text_Or left right =
      ap (λ g. guard_text texts g level) (sym (guard.rolls-Or left right)) ∙ ap (λ f. f level) (fold-roll-Guard (Level → List ℕ) (layer_text texts) (Guard-F.Or left right))

  text_Not : (inner : numbered.Guard) → guard_text texts (guard.Not inner) level ≡ layer_text texts (Guard-F.Not (guard_text texts inner)) level
  text_Not inner =
      ap (λ g. guard_text texts g level) (sym (guard.rolls-Not inner)) ∙ ap (λ f. f level) (fold-roll-Guard (Level → List ℕ) (layer_text texts) (Guard-F.Not inner))

written_as : (bytes text : List ℕ) (tokens : List Token) → bytes ≡ text → Writes text tokens → Writes bytes tokens
written_as bytes text tokens same is = subst (λ bs. Writes bs tokens) (sym same) is

compare_writes : (cmp : Cmp) (value : List ℕ) (token : Token) → Writes value (token ∷ [])
    → Writes (((codes "x " ++ cmp_text cmp) ++ codes " ") ++ value) (word key.X ∷ Sign (sign_of cmp) ∷ token ∷ [])
compare_writes Eq value token is = writes_behind (word key.X) _ _ refl (writes_behind (Sign sign.Equal) value (token ∷ []) tt is)
compare_writes Ne value token is = writes_behind (word key.X) _ _ refl (writes_behind (Sign sign.NotEqual) value (token ∷ []) tt is)
compare_writes Lt value token is = writes_behind (word key.X) _ _ refl (writes_behind (Sign sign.Less) value (token ∷ []) tt is)
compare_writes Le value token is = writes_behind (word key.X) _ _ refl (writes_behind (Sign sign.LessOrEqual) value (token ∷ []) tt is)
compare_writes Gt value token is = writes_behind (word key.X) _ _ refl (writes_behind (Sign sign.Greater) value (token ∷ []) tt is)
compare_writes Ge value token is = writes_behind (word key.X) _ _ refl (writes_behind (Sign sign.GreaterOrEqual) value (token ∷ []) tt is)

mod_writes : (d r : ℕ) → d < 2 ^ 64 → r < 2 ^ 64
    → Writes (((codes "x mod " ++ decimal d) ++ codes " = ") ++ decimal r) (word key.X ∷ word key.Mod ∷ Number (pos d) ∷ Sign sign.Equal ∷ Number (pos r) ∷ [])
mod_writes d r small less =
    writes_behind (word key.X) _ _ refl
    (writes_behind (word key.Mod) _ _ refl
    (writes_between (Sign sign.Equal) (decimal d) (decimal r) (Number (pos d) ∷ []) (Number (pos r) ∷ []) tt (writes_token (Number (pos d)) small) (writes_token (Number (pos r)) less)))

remainder_writes : (texts : List (List ℕ)) (level : Level) (divisor remainder : ℤ) → IsRemainder divisor remainder
    → Writes (guard_text texts (mod_guard (small_remainder divisor remainder)) level) (word key.X ∷ word key.Mod ∷ Number divisor ∷ Sign sign.Equal ∷ Number remainder ∷ [])
remainder_writes texts level divisor remainder is =
    let small : is.d < 2 ^ 64 = omega (arith, is.divisor_is.small) in
    let less : is.r < 2 ^ 64 = omega (arith, is.divisor_is.small, is.remainder_is.small) in
    subst (λ z. Writes (guard_text texts (mod_guard (small_remainder divisor remainder)) level) (word key.X ∷ word key.Mod ∷ Number z ∷ Sign sign.Equal ∷ Number remainder ∷ [])) (sym is.divisor_is.is)
    (subst (λ z. Writes (guard_text texts (mod_guard (small_remainder divisor remainder)) level) (word key.X ∷ word key.Mod ∷ Number (pos is.d) ∷ Sign sign.Equal ∷ Number z ∷ [])) (sym is.remainder_is.is)
    (written_as _ _ _ (ap (λ p. guard_text texts (mod_guard p) level) is.parts ∙ text_Mod texts level is.d is.r) (mod_writes is.d is.r small less)))

length_writes : (texts : List (List ℕ)) (level : Level) (most : ℤ) (n : ℕ) → small_length most ≡ Some n → IsNatural 255 most n
    → Writes (guard_text texts (guard.LenAtMost (unwrap_or (small_length most) 0)) level) (word key.Len ∷ Sign sign.LessOrEqual ∷ Number most ∷ [])
length_writes texts level most n some is =
    let small : n < 2 ^ 64 = omega (arith, is.small) in
    subst (λ z. Writes (guard_text texts (guard.LenAtMost (unwrap_or (small_length most) 0)) level) (word key.Len ∷ Sign sign.LessOrEqual ∷ Number z ∷ [])) (sym is.is)
    (written_as _ _ _ (ap (λ m. guard_text texts (guard.LenAtMost (unwrap_or m 0)) level) some ∙ text_LenAtMost texts level n)
    (writes_behind (word key.Len) _ _ refl (writes_behind (Sign sign.LessOrEqual) (decimal n) (Number (pos n) ∷ []) tt (writes_token (Number (pos n)) small))))

atom_writes : (atom : Atom) (known texts : List (List ℕ)) (level : Level) → Extends (numbered_atom atom known).0 texts → AreSpellable (atom_tokens atom) → is_wide_atom atom ≡ false
    → Writes (guard_text texts (numbered_atom atom known).1 level) (atom_tokens atom)
atom_writes (Compare cmp constant) known texts level extends can narrow =
    written_as _ _ _ (text_Compare texts level cmp (numbered_const constant known).1)
    (compare_writes cmp (value_text texts (numbered_const constant known).1) (const_token constant) (const_writes constant known texts extends can.1.1.0 narrow))
atom_writes (Mod divisor remainder) known texts level extends can narrow = remainder_writes texts level divisor remainder (remainder_is divisor remainder narrow)
atom_writes IsInt known texts level extends can narrow =
    written_as _ _ _ (text_IsInt texts level) (writes_behind (word key.Is) (codes "int") (word key.Int ∷ []) refl (writes_token (word key.Int) refl))
atom_writes IsText known texts level extends can narrow =
    written_as _ _ _ (text_IsText texts level) (writes_behind (word key.Is) (codes "text") (word key.Text ∷ []) refl (writes_token (word key.Text) refl))
atom_writes (LenAtMost most) known texts level extends can narrow =
    let some = some_is (small_length most) narrow in
    length_writes texts level most some.0 some.1 (natural_is 0 255 most some.0 some.1)
atom_writes (Starts front) known texts level extends can narrow =
    written_as _ _ _ (text_Starts texts level (number_in (added known front) front))
    (writes_behind (word key.Starts) (value_text texts (Sym (number_in (added known front) front))) (Text front ∷ []) refl (const_writes (Phrase front) known texts extends can.1.0 refl))

-- the tokens of an atom are the same at each level
atom_at : (atom : Atom) (level : Level) → tokens_at level (Test atom) ≡ atom_tokens atom
unfolding trees_of guard_tokens
atom_at atom AsGuard = refl
atom_at atom AsTerm = refl
atom_at atom AsFactor = refl

and_writes : (left right : Guard) (l r : Level → List ℕ) (level : Level) → Writes (l AsTerm) (tokens_at AsTerm left) → Writes (r AsFactor) (tokens_at AsFactor right)
    → Writes (layer_text [] (Guard-F.And l r) level) (tokens_at level (Both left right))
unfolding trees_of guard_tokens
and_writes left right l r AsGuard front back = writes_nothing_more _ _ (writes_between (word key.And) (l AsTerm) (r AsFactor) (tokens_at AsTerm left) (tokens_at AsFactor right) refl front back)
and_writes left right l r AsTerm front back = writes_nothing_more _ _ (writes_between (word key.And) (l AsTerm) (r AsFactor) (tokens_at AsTerm left) (tokens_at AsFactor right) refl front back)
and_writes left right l r AsFactor front back = writes_brackets _ _ (writes_between (word key.And) (l AsTerm) (r AsFactor) (tokens_at AsTerm left) (tokens_at AsFactor right) refl front back)

or_writes : (left right : Guard) (l r : Level → List ℕ) (level : Level) → Writes (l AsGuard) (tokens_at AsGuard left) → Writes (r AsTerm) (tokens_at AsTerm right)
    → Writes (layer_text [] (Guard-F.Or l r) level) (tokens_at level (Either left right))
unfolding trees_of guard_tokens
or_writes left right l r AsGuard front back = writes_nothing_more _ _ (writes_between (word key.Or) (l AsGuard) (r AsTerm) (tokens_at AsGuard left) (tokens_at AsTerm right) refl front back)
or_writes left right l r AsTerm front back = writes_brackets _ _ (writes_between (word key.Or) (l AsGuard) (r AsTerm) (tokens_at AsGuard left) (tokens_at AsTerm right) refl front back)
or_writes left right l r AsFactor front back = writes_brackets _ _ (writes_between (word key.Or) (l AsGuard) (r AsTerm) (tokens_at AsGuard left) (tokens_at AsTerm right) refl front back)

not_writes : (inner : Guard) (i : Level → List ℕ) (level : Level) → Writes (i AsFactor) (tokens_at AsFactor inner) → Writes (layer_text [] (Guard-F.Not i) level) (tokens_at level (Fails inner))
unfolding trees_of guard_tokens
not_writes inner i AsGuard back = writes_behind (word key.Not) (i AsFactor) (tokens_at AsFactor inner) refl back
not_writes inner i AsTerm back = writes_behind (word key.Not) (i AsFactor) (tokens_at AsFactor inner) refl back
not_writes inner i AsFactor back = writes_behind (word key.Not) (i AsFactor) (tokens_at AsFactor inner) refl back

pub guard_writes : GuardsAreWritten
unfolding numbered_guard is_wide_guard HasSpellableAtoms
guard_writes (Test atom) known texts level extends can narrow =
    subst (Writes (guard_text texts (numbered_atom atom known).1 level)) (sym (atom_at atom level)) (atom_writes atom known texts level extends can narrow)
guard_writes (Both left right) known texts level extends can narrow =
    let between = (numbered_guard left known).0 in
    let parts = or_parts (is_wide_guard left) (is_wide_guard right) narrow in
    let l = (numbered_guard left known).1 in
    let r = (numbered_guard right between).1 in
    written_as _ _ _ (text_And texts level l r)
    (and_writes left right (guard_text texts l) (guard_text texts r) level
    (guard_writes left known texts AsTerm (extends_through between (numbered_guard right between).0 texts (guard_extends right between) extends) can.0 parts.0)
    (guard_writes right between texts AsFactor extends can.1 parts.1))
guard_writes (Either left right) known texts level extends can narrow =
    let between = (numbered_guard left known).0 in
    let parts = or_parts (is_wide_guard left) (is_wide_guard right) narrow in
    let l = (numbered_guard left known).1 in
    let r = (numbered_guard right between).1 in
    written_as _ _ _ (text_Or texts level l r)
    (or_writes left right (guard_text texts l) (guard_text texts r) level
    (guard_writes left known texts AsGuard (extends_through between (numbered_guard right between).0 texts (guard_extends right between) extends) can.0 parts.0)
    (guard_writes right between texts AsTerm extends can.1 parts.1))
guard_writes (Fails inner) known texts level extends can narrow =
    written_as _ _ _ (text_Not texts level (numbered_guard inner known).1)
    (not_writes inner (guard_text texts (numbered_guard inner known).1) level (guard_writes inner known texts AsFactor extends can narrow))
