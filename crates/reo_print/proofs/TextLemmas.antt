-- A text, as it is written and as it is read again.
use Rattle.std.proofs.Common.{◌≡◌, ℕ, suc, ◌+◌, ◌-◌, ◌==◌, nat_lt, nat_le, Bool, true, false, ◌||◌, if◌then◌else◌, List, [], ◌∷◌, ◌++◌, length, take, flat_map, Some, None, codes, slice_range, refl, sym, ap, ◌∙◌, arith, append_assoc, length-append}
use Rattle.std.specs.List.{list_all}
use Rattle.std.specs.Option.{option_map}
use Rattle.std.proofs.lemmas.Bool.{and_parts, eqb-true, ltb-true, leb-true, false≢true}
use Rattle.reo_token.specs.declared.token.Lexeme.TheVariants as lexeme
use Rattle.reo_token.specs.Cut.{text_by, text_len, token_at}
use Rattle.reo_grammar.specs.Token.{Text}
use Rattle.reo_sentence.specs.Seen.{behind_byte, unescaped_from, unescaped, seen}
use Rattle.reo_value.specs.Lexicon.{text_at}
use Rattle.reo_value.specs.declared.value.Value.TheVariants.{Sym}
use Rattle.reo_trace.specs.ReportText.{escaped, value_text}
use Rattle.reo_print.specs.Laws.{can_be_spelled}
use Rattle.reo_print.proofs.NameLemmas.{front}

pub not_so : {S R : Type 0} (f : S → R) (test : Bool) (x y : S) → test ≡ false → f (if test then x else y) ≡ f y
not_so f true x y is = absurd (false≢true (sym is))
not_so f false x y is = refl

-- a byte that is neither a quote nor a backslash, and from 32 on
plain_len : (byte : ℕ) (more : List ℕ) → (byte == 34) ≡ false → (byte == 92) ≡ false → nat_lt byte 32 ≡ false → text_len false (byte ∷ more) ≡ option_map suc (text_len false more)
unfolding text_len
plain_len byte more not_quote not_slash not_low =
    not_so (λ step. text_by step (λ next. text_len next more)) (byte == 34) _ _ not_quote
    ∙ not_so (λ step. text_by step (λ next. text_len next more)) (byte == 92) _ _ not_slash
    ∙ not_so (λ step. text_by step (λ next. text_len next more)) (nat_lt byte 32) _ _ not_low

spelled_high : (byte : ℕ) → can_be_spelled byte ≡ true → (byte == 10) ≡ false → (byte == 9) ≡ false → nat_lt byte 32 ≡ false
spelled_high byte can not_feed not_tab = by (nat_lt byte 32) refl
  where
    high : nat_le 32 byte ≡ true
    high = sym (ap (λ b. b || (byte == 9) || nat_le 32 byte) not_feed ∙ ap (λ b. false || b || nat_le 32 byte) not_tab) ∙ can

    by : (low : Bool) → nat_lt byte 32 ≡ low → low ≡ false
    by true low = absurd (omega (arith, ltb-true byte 32 low, leb-true 32 byte high))
    by false low = refl

-- what is written for a text before its closing quote
written_len : (text rest : List ℕ) → list_all can_be_spelled text ≡ true → text_len false (flat_map escaped text ++ 34 ∷ rest) ≡ Some (length (flat_map escaped text))
unfolding text_len
written_len [] rest can = refl
written_len (byte ∷ text) rest can = by (byte == 34) (byte == 92) (byte == 10) (byte == 9) refl refl refl refl (written_len text rest parts.1)
  where
    parts : (can_be_spelled byte ≡ true) × (list_all can_be_spelled text ≡ true)
    parts = and_parts (can_be_spelled byte) (list_all can_be_spelled text) can

    by : (quote slash feed tab : Bool) → (byte == 34) ≡ quote → (byte == 92) ≡ slash → (byte == 10) ≡ feed → (byte == 9) ≡ tab
        → text_len false (flat_map escaped text ++ 34 ∷ rest) ≡ Some (length (flat_map escaped text))
        → text_len false (((if quote then codes "\\\"" else (if slash then codes "\\\\" else (if feed then codes "\\n" else (if tab then codes "\\t" else byte ∷ [])))) ++ flat_map escaped text) ++ 34 ∷ rest)
        ≡ Some (length ((if quote then codes "\\\"" else (if slash then codes "\\\\" else (if feed then codes "\\n" else (if tab then codes "\\t" else byte ∷ [])))) ++ flat_map escaped text))
    by true slash feed tab q s f t again = ap (λ len. option_map suc (option_map suc len)) again
    by false true feed tab q s f t again = ap (λ len. option_map suc (option_map suc len)) again
    by false false true tab q s f t again = ap (λ len. option_map suc (option_map suc len)) again
    by false false false true q s f t again = ap (λ len. option_map suc (option_map suc len)) again
    by false false false false q s f t again =
        plain_len byte (flat_map escaped text ++ 34 ∷ rest) q s (spelled_high byte parts.0 f t) ∙ ap (option_map suc) again

-- what is written means the text
written_meant : (text : List ℕ) → unescaped (flat_map escaped text) ≡ text
unfolding unescaped_from
written_meant [] = refl
written_meant (byte ∷ text) = by (byte == 34) (byte == 92) (byte == 10) (byte == 9) refl refl refl refl (written_meant text)
  where
    by : (quote slash feed tab : Bool) → (byte == 34) ≡ quote → (byte == 92) ≡ slash → (byte == 10) ≡ feed → (byte == 9) ≡ tab → unescaped (flat_map escaped text) ≡ text
        → unescaped ((if quote then codes "\\\"" else (if slash then codes "\\\\" else (if feed then codes "\\n" else (if tab then codes "\\t" else byte ∷ [])))) ++ flat_map escaped text) ≡ byte ∷ text
    by true slash feed tab q s f t again = ap (λ bs. 34 ∷ bs) again ∙ ap (λ b. b ∷ text) (sym (eqb-true byte 34 q))
    by false true feed tab q s f t again = ap (λ bs. 92 ∷ bs) again ∙ ap (λ b. b ∷ text) (sym (eqb-true byte 92 s))
    by false false true tab q s f t again = ap (λ bs. 10 ∷ bs) again ∙ ap (λ b. b ∷ text) (sym (eqb-true byte 10 f))
    by false false false true q s f t again = ap (λ bs. 9 ∷ bs) again ∙ ap (λ b. b ∷ text) (sym (eqb-true byte 9 t))
    by false false false false q s f t again =
        ap (λ b. behind_byte (if b then None else Some byte) (λ next. unescaped_from next (flat_map escaped text))) s ∙ ap (λ bs. byte ∷ bs) again

-- the quotes around it
quoted : (inner rest : List ℕ) → (34 ∷ (inner ++ 34 ∷ [])) ++ rest ≡ 34 ∷ (inner ++ 34 ∷ rest)
quoted inner rest = ap (λ bs. 34 ∷ bs) (append_assoc inner (34 ∷ []) rest)

quoted_length : (inner : List ℕ) → length (34 ∷ (inner ++ 34 ∷ [])) ≡ length inner + 2
quoted_length inner = omega (arith, length-append inner (34 ∷ []))

pub cut_again : (texts : List (List ℕ)) (number : ℕ) (rest : List ℕ) → list_all can_be_spelled (text_at texts number) ≡ true
    → token_at (value_text texts (Sym number) ++ rest) ≡ Some (lexeme.Text, length (value_text texts (Sym number)))
cut_again texts number rest can =
    let inner = flat_map escaped (text_at texts number) in
    ap token_at (quoted inner rest) ∙ ap (option_map (λ n. (lexeme.Text, n + 2))) (written_len (text_at texts number) rest can)
    ∙ ap (λ n. Some (lexeme.Text, n)) (sym (quoted_length inner))

between : (inner rest : List ℕ) (len : ℕ) → len ≡ length inner + 2 → slice_range (34 ∷ (inner ++ 34 ∷ rest)) 1 (len - 1) ≡ inner
between inner rest len is =
    let count : len - 1 - 1 ≡ length inner = omega (arith, is) in
    ap (λ n. take n (inner ++ 34 ∷ rest)) count ∙ front inner (34 ∷ rest)

pub meant_again : (texts : List (List ℕ)) (number : ℕ) (rest : List ℕ)
    → seen (value_text texts (Sym number) ++ rest) (record { lexeme = lexeme.Text; start = 0; end = length (value_text texts (Sym number)) }) ≡ Text (text_at texts number)
meant_again texts number rest =
    let inner = flat_map escaped (text_at texts number) in
    ap (λ line. Text (unescaped (slice_range line 1 (length (value_text texts (Sym number)) - 1)))) (quoted inner rest)
    ∙ ap (λ bs. Text (unescaped bs)) (between inner rest (length (value_text texts (Sym number))) (quoted_length inner))
    ∙ ap Text (written_meant (text_at texts number))
