-- One cell: its word, what is in it, and what is due at its two ends.
use Rattle.std.proofs.Common.{◌≡◌, ℕ, ◌<◌, zero, suc, ◌⊎◌, inl, inr, ⊎_elim, Option, Some, None, refl, sym, ap, ◌∙◌, subst, arith}
use Rattle.reo_value.specs.declared.value.Value.{Value}
use Rattle.reo_value.specs.Code.{code_of}
use Rattle.reo_fabric.specs.Entry.{content_after}
use Rattle.reo_fabric.specs.Reading.{cell_word}
use Rattle.reo_fabric.proofs.CodeLemmas.{code_is_not_zero}
use Rattle.reo_coupling.specs.Parts.{Shows}

pub same_shows : (word new : ℕ) (held held' fill fill' take take' : Option Value) → new ≡ word → held' ≡ held → fill' ≡ fill → take' ≡ take → Shows word held fill take → Shows new held' fill' take'
same_shows word new held held' fill fill' take take' of_word of_held of_fill of_take shows =
    subst (λ n. Shows n held' fill' take') (sym of_word)
    (subst (λ x. Shows word x fill' take') (sym of_held) (subst (λ f. Shows word held f take') (sym of_fill) (subst (λ t. Shows word held fill t) (sym of_take) shows)))

-- a taker that owes nothing reads a full cell's word, and a filler an empty cell's
pub reads_full : (word : ℕ) (held fill take : Option Value) → 0 < word → take ≡ None → Shows word held fill take → cell_word held ≡ word
reads_full word held None None full none shows = sym shows
reads_full word held (Some u) None full none shows = absurd (omega (arith, shows.0))
reads_full word held fill (Some v) full none shows = cc

pub reads_empty : (word : ℕ) (held fill take : Option Value) → word ≡ 0 → fill ≡ None → Shows word held fill take → cell_word held ≡ word
reads_empty word held None None empty none shows = sym shows
reads_empty word held None (Some v) empty none shows = absurd (code_is_not_zero v (sym empty ∙ shows.0))
reads_empty word held (Some u) take empty none shows = cc

-- At an end of a cell an entry is committed: by the region of this end, which owed nothing, or by another, which does nothing
-- at this end.
unfoldable pub AtEnd : Option Value → Option Value → Option Value → Type 0
AtEnd done due due' = ((due' ≡ done) × (due ≡ None)) ⊎ ((due' ≡ due) × (done ≡ None))

end_stays : (due due' : Option Value) → AtEnd None due due' → due' ≡ due
unfolding AtEnd
end_stays due due' at = ⊎_elim (λ mine. mine.0 ∙ sym mine.1) (λ other. other.0) at

pub end_does : (value : Value) (due due' : Option Value) → AtEnd (Some value) due due' → (due' ≡ Some value) × (due ≡ None)
unfolding AtEnd
end_does value due due' (inl mine) = mine
end_does value due due' (inr other) = cc

no_fill : (word : ℕ) (value : Value) (held fill : Option Value) → word ≡ code_of value → Shows word held fill None → fill ≡ None
no_fill word value held None full shows = refl
no_fill word value held (Some u) full shows = absurd (code_is_not_zero value (sym shows.0 ∙ full))

no_take : (word : ℕ) (held take : Option Value) → word ≡ 0 → Shows word held None take → take ≡ None
no_take word held None empty shows = refl
no_take word held (Some v) empty shows = absurd (code_is_not_zero v (sym empty ∙ shows.0))

-- an entry is committed that takes and fills at this cell what it does
pub commits_cell : (word : ℕ) (held takes fills fill fill' take take' : Option Value)
    → ((value : Value) → takes ≡ Some value → (word ≡ code_of value) × (held ≡ Some value)) → ((value : Value) → fills ≡ Some value → (word ≡ 0) × (held ≡ None))
    → AtEnd fills fill fill' → AtEnd takes take take' → Shows word held fill take → Shows word (content_after takes fills held) fill' take'
commits_cell word held (Some v) (Some u) fill fill' take take' of_take of_fill at_filler at_taker shows =
    absurd (code_is_not_zero v (sym (of_fill u refl).0 ∙ (of_take v refl).0))
commits_cell word held (Some v) None fill fill' take take' of_take of_fill at_filler at_taker shows =
    let taker = end_does v take take' at_taker in
    let before : Shows word held fill None = subst (λ t. Shows word held fill t) taker.1 shows in
    same_shows word word None None None fill' (Some v) take' refl refl (end_stays fill fill' at_filler ∙ no_fill word v held fill (of_take v refl).0 before) taker.0 ((of_take v refl).0, refl)
commits_cell word held None (Some u) fill fill' take take' of_take of_fill at_filler at_taker shows =
    let filler = end_does u fill fill' at_filler in
    let before : Shows word held None take = subst (λ f. Shows word held f take) filler.1 shows in
    same_shows word word (Some u) (Some u) (Some u) fill' None take' refl refl filler.0 (end_stays take take' at_taker ∙ no_take word held take (of_fill u refl).0 before) ((of_fill u refl).0, refl)
commits_cell word held None None fill fill' take take' of_take of_fill at_filler at_taker shows =
    same_shows word word held held fill fill' take take' refl refl (end_stays fill fill' at_filler) (end_stays take take' at_taker) shows

-- a take that is due is stored
pub take_stored : (word : ℕ) (value : Value) (held fill take : Option Value) → take ≡ Some value → Shows word held fill take → Shows 0 held fill None
take_stored word value held None None is shows = cc
take_stored word value held (Some u) None is shows = cc
take_stored word value held None (Some v) is shows = ap cell_word (sym shows.1)
take_stored word value held (Some u) (Some v) is shows = absurd shows

-- a fill that is due is stored
pub fill_stored : (word : ℕ) (value : Value) (held fill take : Option Value) → fill ≡ Some value → Shows word held fill take → Shows (code_of value) held None take
fill_stored word value held None take is shows = cc
fill_stored word value held (Some u) None is shows = ap cell_word (sym is ∙ sym shows.1)
fill_stored word value held (Some u) (Some v) is shows = absurd shows

-- the word where a take is due, or a fill
pub word_before_take : (word : ℕ) (value : Value) (held fill take : Option Value) → take ≡ Some value → Shows word held fill take → 0 < word
word_before_take word value held None None is shows = cc
word_before_take word value held (Some u) None is shows = cc
word_before_take word value held None (Some v) is shows = ⊎_elim (λ zero. absurd (code_is_not_zero v (sym zero ∙ shows.0))) (λ some. some) (zero_or_more word)
  where
    zero_or_more : (n : ℕ) → (n ≡ 0) ⊎ (0 < n)
    zero_or_more zero = inl refl
    zero_or_more (suc n) = inr (omega arith)
word_before_take word value held (Some u) (Some v) is shows = absurd shows

pub word_before_fill : (word : ℕ) (value : Value) (held fill take : Option Value) → fill ≡ Some value → Shows word held fill take → word ≡ 0
word_before_fill word value held None take is shows = cc
word_before_fill word value held (Some u) None is shows = shows.0
word_before_fill word value held (Some u) (Some v) is shows = absurd shows
