-- A line leads to one outcome, and so do all lines of a text.
use Rattle.std.proofs.Common.{◌≡◌, ◌≢◌, ⊎_elim, ℕ, ◌+◌, List, [], ◌∷◌, ◌++◌, length, map, drop, refl, sym, ap, subst, ◌∙◌, arith, length-append}
use Rattle.std.proofs.Math.Seq.{drop-append_seam}
use Rattle.std.proofs.lemmas.List.{length-map}
use Rattle.reo_token.specs.declared.token.Token.{Token}
use Rattle.reo_token.specs.declared.token.End.{End}
use Rattle.reo_token.specs.declared.token.End.TheVariants.{Over, Bad, Large}
use Rattle.reo_token.specs.Cut.{cut}
use Rattle.reo_grammar.specs.Token as grammar
use Rattle.reo_grammar.specs.Wrong.{IsFirstWrong}
use Rattle.reo_grammar.proofs.LineLaws.{say_one, say_or_go_wrong, say_or_go_wrong_alone, go_wrong_once}
use Rattle.reo_sentence.specs.Seen.{seen}
use Rattle.reo_sentence.specs.ReadLine.{column_at}
use Rattle.reo_document.specs.declared.refusal.TextRefusal.TheVariants.{Syntax}
use Rattle.reo_document.specs.Document.{DocumentData}
use Rattle.reo_document.specs.Spells.{place_in, Outcome, Goes, Stops, outcome_of, tokens_in, Leads, bad, large, skipped, wrong, says, Then, LinesLead}

same_bad : (one other : ℕ) → Bad one ≡ Bad other → one ≡ other
same_bad one other is = cc

over_bad : (at : ℕ) → Over ≡ Bad at → ⊥
over_bad at is = cc

over_large : Over ≡ Large → ⊥
over_large is = cc

large_bad : (at : ℕ) → Large ≡ Bad at → ⊥
large_bad at is = cc

-- two rests of one length are one
same_rest : (tokens one other front back : List Token) → tokens ≡ front ++ one → tokens ≡ back ++ other → length one ≡ length other → one ≡ other
same_rest tokens one other front back first second same =
    let fronts : length front ≡ length back = omega (arith, ap length first, ap length second, length-append front one, length-append back other) in
    sym (drop-append_seam front one) ∙ ap (drop (length front)) (sym first ∙ second) ∙ ap (λ n. drop n (back ++ other)) fronts ∙ drop-append_seam back other

cons_nil : (token : Token) (tokens : List Token) → token ∷ tokens ≡ [] → ⊥
cons_nil token tokens is = cc

-- a list whose images are in two parts is in two parts
map_split : (f : Token → grammar.Token) (tokens : List Token) (front rest : List grammar.Token) → map f tokens ≡ front ++ rest
    → (before : List Token) × ((behind : List Token) × ((tokens ≡ before ++ behind) × (map f behind ≡ rest)))
map_split f tokens [] rest is = ([], (tokens, (refl, is)))
map_split f [] (t ∷ front) rest is = absurd (nil_cons t (front ++ rest) is)
  where
    nil_cons : (t : grammar.Token) (ts : List grammar.Token) → [] ≡ t ∷ ts → ⊥
    nil_cons t ts is = cc
map_split f (token ∷ tokens) (t ∷ front) rest is =
    let tails : map f tokens ≡ front ++ rest = cc in
    let parts = map_split f tokens front rest tails in
    (token ∷ parts.0, (parts.1.0, (ap (λ ts. token ∷ ts) parts.1.1.0, parts.1.1.1)))

-- each line has an outcome
pub leads_somewhere : (d : DocumentData) (number : ℕ) (line : List ℕ) → (outcome : Outcome) × Leads d number line outcome
leads_somewhere d number line = by (cut 512 0 line).1 refl
  where
    by_tokens : (cut 512 0 line).1 ≡ Over → (tokens : List Token) → tokens_in line ≡ tokens → (outcome : Outcome) × Leads d number line outcome
    by_tokens over [] none = (Goes d, skipped over none)
    by_tokens over (token ∷ tokens) is =
        let some : tokens_in line ≢ [] = λ none. cons_nil token tokens (sym is ∙ none) in
        ⊎_elim
        (λ s. (outcome_of number d s.0, says s.0 over some s.1))
        (λ w. let parts = map_split (seen line) (tokens_in line) w.1.front w.0 w.1.split in (
          Stops (Syntax number (column_at (tokens_in line) parts.1.0)),
          wrong parts.0 parts.1.0 over some parts.1.1.0 (subst (IsFirstWrong (place_in d) (map (seen line) (tokens_in line))) (sym parts.1.1.1) w.1),
        ))
        (say_or_go_wrong (place_in d) (map (seen line) (tokens_in line)))

    by : (end : End) → (cut 512 0 line).1 ≡ end → (outcome : Outcome) × Leads d number line outcome
    by Over over = by_tokens over (tokens_in line) refl
    by (Bad at) is = (Stops (Syntax number (at + 1)), bad at is)
    by Large is = (_, large is)

-- and one only
pub leads_one_way : (d : DocumentData) (number : ℕ) (line : List ℕ) (one other : Outcome) → Leads d number line one → Leads d number line other → one ≡ other
leads_one_way d number line _ _ (bad at is) (bad to then_is) = ap (λ n. Stops (Syntax number (n + 1))) (same_bad at to (sym is ∙ then_is))
leads_one_way d number line _ _ (bad at is) (large then_is) = absurd (large_bad at (sym then_is ∙ is))
leads_one_way d number line _ _ (bad at is) (skipped over none) = absurd (over_bad at (sym over ∙ is))
leads_one_way d number line _ _ (bad at is) (wrong front rest over some split goes) = absurd (over_bad at (sym over ∙ is))
leads_one_way d number line _ _ (bad at is) (says s over some line_is) = absurd (over_bad at (sym over ∙ is))
leads_one_way d number line _ _ (large is) (bad at then_is) = absurd (large_bad at (sym is ∙ then_is))
leads_one_way d number line _ _ (large is) (large then_is) = refl
leads_one_way d number line _ _ (large is) (skipped over none) = absurd (over_large (sym over ∙ is))
leads_one_way d number line _ _ (large is) (wrong front rest over some split goes) = absurd (over_large (sym over ∙ is))
leads_one_way d number line _ _ (large is) (says s over some line_is) = absurd (over_large (sym over ∙ is))
leads_one_way d number line _ _ (skipped over none) (bad at then_is) = absurd (over_bad at (sym over ∙ then_is))
leads_one_way d number line _ _ (skipped over none) (large then_is) = absurd (over_large (sym over ∙ then_is))
leads_one_way d number line _ _ (skipped over none) (skipped over_2 none_2) = refl
leads_one_way d number line _ _ (skipped over none) (wrong front rest over_2 some split goes) = absurd (some none)
leads_one_way d number line _ _ (skipped over none) (says s over_2 some line_is) = absurd (some none)
leads_one_way d number line _ _ (wrong front rest over some split goes) (bad at then_is) = absurd (over_bad at (sym over ∙ then_is))
leads_one_way d number line _ _ (wrong front rest over some split goes) (large then_is) = absurd (over_large (sym over ∙ then_is))
leads_one_way d number line _ _ (wrong front rest over some split goes) (skipped over_2 none) = absurd (some none)
leads_one_way d number line _ _ (wrong front rest over some split goes) (wrong front_2 rest_2 over_2 some_2 split_2 goes_2) =
    let same = go_wrong_once (place_in d) (map (seen line) (tokens_in line)) (map (seen line) rest) (map (seen line) rest_2) goes goes_2 in
    ap (λ r. Stops (Syntax number (column_at (tokens_in line) r)))
    (same_rest (tokens_in line) rest rest_2 front front_2 split split_2 (sym (length-map rest (seen line)) ∙ ap length same ∙ length-map rest_2 (seen line)))
leads_one_way d number line _ _ (wrong front rest over some split goes) (says s over_2 some_2 line_is) =
    absurd (say_or_go_wrong_alone (place_in d) (map (seen line) (tokens_in line)) (map (seen line) rest) s line_is goes)
leads_one_way d number line _ _ (says s over some line_is) (bad at then_is) = absurd (over_bad at (sym over ∙ then_is))
leads_one_way d number line _ _ (says s over some line_is) (large then_is) = absurd (over_large (sym over ∙ then_is))
leads_one_way d number line _ _ (says s over some line_is) (skipped over_2 none) = absurd (some none)
leads_one_way d number line _ _ (says s over some line_is) (wrong front rest over_2 some_2 split goes) =
    absurd (say_or_go_wrong_alone (place_in d) (map (seen line) (tokens_in line)) (map (seen line) rest) s line_is goes)
leads_one_way d number line _ _ (says s over some line_is) (says s_2 over_2 some_2 line_is_2) =
    ap (outcome_of number d) (say_one (place_in d) (map (seen line) (tokens_in line)) s s_2 line_is line_is_2)

pub lines_lead_somewhere : (d : DocumentData) (number : ℕ) (lines : List (List ℕ)) → (outcome : Outcome) × LinesLead d number lines outcome
unfolding LinesLead
lines_lead_somewhere d number [] = (Goes d, refl)
lines_lead_somewhere d number (line ∷ lines) = by (leads_somewhere d number line) (λ next. lines_lead_somewhere next (number + 1) lines)
  where
    by : (outcome : Outcome) × Leads d number line outcome → ((next : DocumentData) → (outcome : Outcome) × LinesLead next (number + 1) lines outcome)
        → (outcome : Outcome) × ((middle : Outcome) × (Leads d number line middle × Then middle (λ next. LinesLead next (number + 1) lines outcome) outcome))
    by (Goes next, leads) more = let rest = more next in (rest.0, (Goes next, (leads, rest.1)))
    by (Stops refusal, leads) more = (Stops refusal, (Stops refusal, (leads, refl)))

pub lines_lead_one_way : (d : DocumentData) (number : ℕ) (lines : List (List ℕ)) (one other : Outcome) → LinesLead d number lines one → LinesLead d number lines other → one ≡ other
unfolding LinesLead
lines_lead_one_way d number [] one other first second = first ∙ sym second
lines_lead_one_way d number (line ∷ lines) one other first second =
    by first.0 second.0 (leads_one_way d number line first.0 second.0 first.1.0 second.1.0) first.1.1 second.1.1 (λ next. lines_lead_one_way next (number + 1) lines one other)
  where
    on : (end : Outcome) → Outcome → Type 0
    on end middle = Then middle (λ next. LinesLead next (number + 1) lines end) end

    by_same : (middle : Outcome) → on one middle → on other middle → ((next : DocumentData) → LinesLead next (number + 1) lines one → LinesLead next (number + 1) lines other → one ≡ other)
        → one ≡ other
    by_same (Goes next) f s each = each next f s
    by_same (Stops refusal) f s each = f ∙ sym s

    by : (m n : Outcome) → m ≡ n → on one m → on other n → ((next : DocumentData) → LinesLead next (number + 1) lines one → LinesLead next (number + 1) lines other → one ≡ other)
        → one ≡ other
    by m n same f s each = by_same m f (subst (on other) (sym same) s) each
