-- Seats of one kind: what is told of them after the views of all seats changed.
use Rattle.std.proofs.Common.{◌≡◌, ℕ, zero, suc, ◌<◌, ◌⊎◌, ⊎_elim, cond, List, [], ◌∷◌, ◌++◌, set, slice_get, nat_eq, Some, refl, sym, ap, ◌∙◌, subst, arith, length-set, get_or-set_same, get_or-set_other}
use Rattle.std.proofs.lemmas.Bool.{cases_eq, eq-eqb, ne_eqb}
use Rattle.std.proofs.lemmas.Option.{same_Some, slice_get_within}
use Rattle.reo_coupling.specs.declared.view.Mark.{Mark}
use Rattle.reo_coupling.specs.declared.view.Mark.TheVariants.{Fresh, Out, Home}
use Rattle.reo_coupling.specs.declared.view.View.{View}
use Rattle.reo_coupling.specs.Seats.{mark_of, with_member, IsAmong, IsFromHome, MarkTells, IsTheSeat, KindTells}
use Rattle.reo_coupling.proofs.Places.{get_set, set_here, set_else, get_longer, get_more}

-- the seats of a kind have the same views in both lists
pub record SameSeats {W : Type 0} (wrap : W → View) (views later : List View) : Type 0 where
  pub kept : (id : ℕ) (view : W) → slice_get views id ≡ Some (wrap view) → slice_get later id ≡ Some (wrap view)
  pub came : (id : ℕ) (view : W) → slice_get later id ≡ Some (wrap view) → slice_get views id ≡ Some (wrap view)

module _ {W : Type 0} (wrap : W → View) where
  -- a seat of another kind changes
  pub same_set : (views : List View) (id : ℕ) (old new : View) → slice_get views id ≡ Some old → ((view : W) → old ≡ wrap view → ⊥) → ((view : W) → new ≡ wrap view → ⊥) → SameSeats wrap views (set views id new)
  same_set views id old new found no_old no_new = record {
    kept = λ j view there.
        set_else views id j new (λ is. no_old view (same_Some old (wrap view) (sym found ∙ (ap (slice_get views) (sym is) ∙ there)))) ∙ there;
    came = λ j view there. ⊎_elim (λ here. absurd (no_new view here.1)) (λ other. other.1) (get_set views id j new (wrap view) there);
  }

  -- a seat of another kind is added
  pub same_more : (views : List View) (new : View) → ((view : W) → new ≡ wrap view → ⊥) → SameSeats wrap views (views ++ new ∷ [])
  same_more views new no_new = record {
    kept = λ j view there. get_longer views (new ∷ []) j (wrap view) there;
    came = λ j view there. ⊎_elim (λ older. older) (λ last. absurd (no_new view last.1)) (get_more views new (wrap view) j there);
  }

  pub same_both : (views later last : List View) → SameSeats wrap views later → SameSeats wrap later last → SameSeats wrap views last
  same_both views later last one two = record { kept = λ j view there. two.kept j view (one.kept j view there); came = λ j view there. one.came j view (two.came j view there) }

module _ {W : Type 0} (name : W → ℕ) where
  pub member_here : (book : ℕ → W) (view : W) (number : ℕ) → number ≡ name view → with_member name book view number ≡ view
  member_here book view number is = ap (λ b. cond b view (book number)) (eq-eqb number (name view) is)

  pub member_else : (book : ℕ → W) (view : W) (number : ℕ) → (number ≡ name view → ⊥) → with_member name book view number ≡ book number
  member_else book view number ne = ap (λ b. cond b view (book number)) (ne_eqb number (name view) ne)

clash_out : Fresh ≡ Out → ⊥
clash_out e = cc

clash_home : Home ≡ Out → ⊥
clash_home e = cc

fresh_not_home : Fresh ≡ Home → ⊥
fresh_not_home e = cc

module _ {W : Type 0} (wrap : W → View) (name : W → ℕ) (fresh : ℕ → W) (count : ℕ) (injective : (a b : W) → wrap a ≡ wrap b → a ≡ b) (marks : List Mark) (home : List W) (book : ℕ → W) (views : List View)
    (tells : KindTells wrap name fresh count marks home book views) where
  -- no seat of the kind changes
  pub kind_stays : (later : List View) → SameSeats wrap views later → KindTells wrap name fresh count marks home book later
  kind_stays later same = record {
    seat_of = tells.seat_of;
    all = tells.all;
    each = λ number within. mark_stays number (mark_of marks number) (tells.each number within);
    seats = λ id view there. tells.seats id view (same.came id view there);
    back = tells.back;
  }
    where
      mark_stays : (number : ℕ) (mark : Mark) → MarkTells wrap fresh book views home tells.seat_of number mark → MarkTells wrap fresh book later home tells.seat_of number mark
      mark_stays number Fresh told = told
      mark_stays number Out told = same.kept (tells.seat_of number) (book number) told
      mark_stays number Home told = told

  -- one seat of the kind changes, and its view in the book with it
  module _ (id : ℕ) (old new : W) (found : slice_get views id ≡ Some (wrap old)) (same : name new ≡ name old) (named : (number : ℕ) → number < count → name (book number) ≡ number) where
    its_seat : IsTheSeat name count marks book tells.seat_of id old
    its_seat = tells.seats id old found

    marks_step : (number : ℕ) → number < count → (mark : Mark) → mark_of marks number ≡ mark → MarkTells wrap fresh book views home tells.seat_of number mark
        → MarkTells wrap fresh (with_member name book new) (set views id (wrap new)) home tells.seat_of number mark
    marks_step number inside Fresh is told =
        member_else name book new number (λ mine. clash_out (sym is ∙ (ap (mark_of marks) (mine ∙ same) ∙ its_seat.out))) ∙ told
    marks_step number inside Home is told =
        subst (IsAmong home) (sym (member_else name book new number (λ mine. clash_home (sym is ∙ (ap (mark_of marks) (mine ∙ same) ∙ its_seat.out))))) told
    marks_step number inside Out is told =
        ⊎_elim
        (λ mine.
        let here : tells.seat_of number ≡ id = ap tells.seat_of (mine ∙ same) ∙ its_seat.only in
        ap (slice_get (set views id (wrap new))) here ∙ (set_here views id (wrap new) (slice_get_within views id (wrap old) found) ∙ ap (λ (v : W). Some (wrap v)) (sym (member_here name book new number mine))))
        (λ ne.
        let elsewhere : tells.seat_of number ≡ id → ⊥ = λ here.
        let view : book number ≡ old = injective (book number) old (same_Some _ _ (sym told ∙ (ap (slice_get views) here ∙ found))) in
        ne (sym (named number inside) ∙ (ap name view ∙ sym same)) in
        set_else views id (tells.seat_of number) (wrap new) elsewhere ∙ (told ∙ ap (λ (v : W). Some (wrap v)) (sym (member_else name book new number ne))))
        (cases_eq number (name new))

    pub kind_steps : KindTells wrap name fresh count marks home (with_member name book new) (set views id (wrap new))
    kind_steps = record {
      seat_of = tells.seat_of;
      all = tells.all;
      each = λ number inside. marks_step number inside (mark_of marks number) refl (tells.each number inside);
      seats = λ j view there.
          ⊎_elim
          (λ here.
          let is : new ≡ view = injective new view here.1 in
          subst (IsTheSeat name count marks (with_member name book new) tells.seat_of j) is (record {
            within = subst (λ n. n < count) (sym same) its_seat.within;
            only = ap tells.seat_of same ∙ (its_seat.only ∙ sym here.0);
            known = member_here name book new (name new) refl;
            out = ap (mark_of marks) same ∙ its_seat.out;
          }))
          (λ other.
          let told = tells.seats j view other.1 in
          record {
            within = told.within;
            only = told.only;
            known = member_else name book new (name view) (λ mine. other.0 (sym told.only ∙ (ap tells.seat_of (mine ∙ same) ∙ its_seat.only))) ∙ told.known;
            out = told.out;
          })
          (get_set views id j (wrap new) (wrap view) there);
      back = λ view among.
          let from = tells.back view among in
          record {
            own = record {
              within = from.own.within;
              known = member_else name book new (name view) (λ mine. clash_home (sym from.joined ∙ (ap (mark_of marks) (mine ∙ same) ∙ its_seat.out))) ∙ from.own.known;
            };
            joined = from.joined;
          };
    }

  -- a number gets its seat
  module _ (number id : ℕ) (later : List View) (inside : number < count) (is_fresh : mark_of marks number ≡ Fresh) (kept : (j : ℕ) (view : W) → slice_get views j ≡ Some (wrap view) → slice_get later j ≡ Some (wrap view))
      (came : (j : ℕ) (view : W) → slice_get later j ≡ Some (wrap view) → (slice_get views j ≡ Some (wrap view)) ⊎ ((j ≡ id) × (wrap (fresh number) ≡ wrap view))) (there : slice_get later id ≡ Some (wrap (fresh number)))
      (names : name (fresh number) ≡ number) where
    seat_after : ℕ → ℕ
    seat_after n = cond (nat_eq n number) id (tells.seat_of n)

    seat_here : (n : ℕ) → n ≡ number → seat_after n ≡ id
    unfolding seat_after
    seat_here n is = ap (λ b. cond b id (tells.seat_of n)) (eq-eqb n number is)

    seat_else : (n : ℕ) → (n ≡ number → ⊥) → seat_after n ≡ tells.seat_of n
    unfolding seat_after
    seat_else n ne = ap (λ b. cond b id (tells.seat_of n)) (ne_eqb n number ne)

    was_fresh : book number ≡ fresh number
    was_fresh = subst (MarkTells wrap fresh book views home tells.seat_of number) is_fresh (tells.each number inside)

    mark_here : mark_of (set marks number Out) number ≡ Out
    mark_here = get_or-set_same marks number Out Fresh (omega (arith, inside, tells.all))

    mark_else : (n : ℕ) → (n ≡ number → ⊥) → mark_of (set marks number Out) n ≡ mark_of marks n
    mark_else n ne = get_or-set_other marks number n Out Fresh ne

    marks_split : (n : ℕ) → (n ≡ number → ⊥) → (mark : Mark) → MarkTells wrap fresh book views home tells.seat_of n mark → MarkTells wrap fresh book later home seat_after n mark
    marks_split n ne Fresh told = told
    marks_split n ne Home told = told
    marks_split n ne Out told = ap (slice_get later) (seat_else n ne) ∙ kept (tells.seat_of n) (book n) told

    pub kind_splits : KindTells wrap name fresh count (set marks number Out) home book later
    kind_splits = record {
      seat_of = seat_after;
      all = length-set marks number Out ∙ tells.all;
      each = λ n within.
          ⊎_elim
          (λ is.
          subst (λ k. MarkTells wrap fresh book later home seat_after k (mark_of (set marks number Out) k)) (sym is)
          (subst (MarkTells wrap fresh book later home seat_after number) (sym mark_here) (ap (slice_get later) (seat_here number refl) ∙ (there ∙ ap (λ (v : W). Some (wrap v)) (sym was_fresh)))))
          (λ ne. subst (MarkTells wrap fresh book later home seat_after n) (sym (mark_else n ne)) (marks_split n ne (mark_of marks n) (tells.each n within)))
          (cases_eq n number);
      seats = λ j view at.
          ⊎_elim
          (λ older.
          let told = tells.seats j view older in
          let ne : name view ≡ number → ⊥ = λ is. clash_out (sym is_fresh ∙ (ap (mark_of marks) (sym is) ∙ told.out)) in
          record { within = told.within; only = seat_else (name view) ne ∙ told.only; known = told.known; out = mark_else (name view) ne ∙ told.out })
          (λ last.
          subst (IsTheSeat name count (set marks number Out) book seat_after j) (injective (fresh number) view last.1) (record {
            within = subst (λ n. n < count) (sym names) inside;
            only = seat_here (name (fresh number)) names ∙ sym last.0;
            known = ap book names ∙ was_fresh;
            out = ap (mark_of (set marks number Out)) names ∙ mark_here;
          }))
          (came j view at);
      back = λ view among.
          let from = tells.back view among in
          let ne : name view ≡ number → ⊥ = λ is. fresh_not_home (sym is_fresh ∙ (ap (mark_of marks) (sym is) ∙ from.joined)) in
          record { own = from.own; joined = mark_else (name view) ne ∙ from.joined };
    }

  -- a seat comes home
  module _ (other : ℕ) (view : W) (later : List View) (found : slice_get views other ≡ Some (wrap view)) (named : (number : ℕ) → number < count → name (book number) ≡ number)
      (kept : (j : ℕ) (v : W) → (j ≡ other → ⊥) → slice_get views j ≡ Some (wrap v) → slice_get later j ≡ Some (wrap v)) (came : (j : ℕ) (v : W) → slice_get later j ≡ Some (wrap v) → (j ≡ other → ⊥) × (slice_get views j ≡ Some (wrap v))) where
    home_seat : IsTheSeat name count marks book tells.seat_of other view
    home_seat = tells.seats other view found

    home_here : mark_of (set marks (name view) Home) (name view) ≡ Home
    home_here = get_or-set_same marks (name view) Home Fresh (omega (arith, home_seat.within, tells.all))

    home_else : (n : ℕ) → (n ≡ name view → ⊥) → mark_of (set marks (name view) Home) n ≡ mark_of marks n
    home_else n ne = get_or-set_other marks (name view) n Home Fresh ne

    marks_join : (n : ℕ) → n < count → (n ≡ name view → ⊥) → (mark : Mark) → MarkTells wrap fresh book views home tells.seat_of n mark → MarkTells wrap fresh book later (view ∷ home) tells.seat_of n mark
    marks_join n within ne Fresh told = told
    marks_join n within ne Home told = record { place = suc told.place; found = told.found }
    marks_join n within ne Out told =
        kept (tells.seat_of n) (book n)
        (λ here. ne (sym (named n within) ∙ ap name (injective (book n) view (same_Some _ _ (sym told ∙ (ap (slice_get views) here ∙ found)))))) told

    pub kind_joins : KindTells wrap name fresh count (set marks (name view) Home) (view ∷ home) book later
    kind_joins = record {
      seat_of = tells.seat_of;
      all = length-set marks (name view) Home ∙ tells.all;
      each = λ n within.
          ⊎_elim
          (λ is.
          subst (λ k. MarkTells wrap fresh book later (view ∷ home) tells.seat_of k (mark_of (set marks (name view) Home) k)) (sym is)
          (subst (MarkTells wrap fresh book later (view ∷ home) tells.seat_of (name view)) (sym home_here) (record { place = 0; found = ap Some (sym home_seat.known) })))
          (λ ne. subst (MarkTells wrap fresh book later (view ∷ home) tells.seat_of n) (sym (home_else n ne)) (marks_join n within ne (mark_of marks n) (tells.each n within)))
          (cases_eq n (name view));
      seats = λ j v at.
          let back = came j v at in
          let told = tells.seats j v back.1 in
          record {
            within = told.within;
            only = told.only;
            known = told.known;
            out = home_else (name v) (λ is. back.0 (sym told.only ∙ (ap tells.seat_of is ∙ home_seat.only))) ∙ told.out;
          };
      back = λ v among. from_home v among.place among.found;
    }
      where
        old_home : (v : W) → IsAmong home v → IsFromHome name count (set marks (name view) Home) book v
        old_home v among =
            let from = tells.back v among in
            record {
              own = from.own;
              joined = home_else (name v) (λ is. clash_home (sym from.joined ∙ (ap (mark_of marks) is ∙ home_seat.out))) ∙ from.joined;
            }

        from_home : (v : W) (place : ℕ) → slice_get (view ∷ home) place ≡ Some v → IsFromHome name count (set marks (name view) Home) book v
        from_home v zero found =
            subst (IsFromHome name count (set marks (name view) Home) book) (same_Some view v found) (record { own = record { within = home_seat.within; known = home_seat.known }; joined = home_here })
        from_home v (suc place) found = old_home v (record { place = place; found = found })
