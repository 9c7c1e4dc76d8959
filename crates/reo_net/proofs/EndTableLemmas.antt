-- how the tables of nodes with a channel's end grow with the next channel
use Rattle.std.proofs.Common.{◌≡◌, ℕ, ◌+◌, ◌<◌, ◌⊎◌, ⊎_elim, inl, inr, Bool, true, false, not, List, slice_get, set, Some, refl, ap, arith}
use Rattle.reo_net.specs.declared.circuit.Channel.{Channel}
use Rattle.reo_net.specs.Tables.{Marks, IsKeyBelow, IsPassBelow, IsSourceBelow, comes_out}
use Rattle.reo_net.proofs.TableLemmas.{Marks-set, Marks-same, IsKeyBelow-more, IsKeyBelow-cases, IsPassBelow-more, IsPassBelow-cases, IsPassBelow-hit, IsPassBelow-miss}

module _ (channels : List Channel) (table : List Bool) (n i : ℕ) (x : Channel) (here : slice_get channels i ≡ Some x) where
  -- data come out of the next channel at its end b
  pub sink-more : x.b < n → comes_out x ≡ true → Marks table n (IsPassBelow (λ channel. channel.b) comes_out channels i) → Marks (set table x.b true) n (IsPassBelow (λ channel. channel.b) comes_out channels (i + 1))
  sink-more fits out marks =
      Marks-set table n x.b (IsPassBelow (λ channel. channel.b) comes_out channels i) (IsPassBelow (λ channel. channel.b) comes_out channels (i + 1)) fits marks
      (IsPassBelow-more (λ channel. channel.b) comes_out channels i) (IsPassBelow-hit (λ channel. channel.b) comes_out channels i x here out)
      (λ k at. ⊎_elim (λ p. inl p) (λ e. inr e.0) (IsPassBelow-cases (λ channel. channel.b) comes_out channels i k x here at))

  pub sink-same : comes_out x ≡ false → Marks table n (IsPassBelow (λ channel. channel.b) comes_out channels i) → Marks table n (IsPassBelow (λ channel. channel.b) comes_out channels (i + 1))
  sink-same in_ marks =
      Marks-same table n (IsPassBelow (λ channel. channel.b) comes_out channels i) (IsPassBelow (λ channel. channel.b) comes_out channels (i + 1)) marks
      (IsPassBelow-more (λ channel. channel.b) comes_out channels i) (λ k at. IsPassBelow-miss (λ channel. channel.b) comes_out channels i k x here in_ at)

  -- data go into the next channel at its end a
  pub source-a : x.a < n → Marks table n (IsSourceBelow channels i) → Marks (set table x.a true) n (λ k. IsKeyBelow (λ channel. channel.a) channels (i + 1) k ⊎ IsPassBelow (λ channel. channel.b) (λ channel. not (comes_out channel)) channels i k)
  source-a fits marks =
      Marks-set table n x.a (IsSourceBelow channels i) (λ k. IsKeyBelow (λ channel. channel.a) channels (i + 1) k ⊎ IsPassBelow (λ channel. channel.b) (λ channel. not (comes_out channel)) channels i k) fits marks
      (λ k at. ⊎_elim (λ a. inl (IsKeyBelow-more (λ channel. channel.a) channels i k a)) (λ b. inr b) at)
      (inl (record { place = i; element = x; within = omega arith; found = here; keyed = refl }))
      (λ k at. ⊎_elim (λ a. ⊎_elim (λ old. inl (inl old)) (λ e. inr e) (IsKeyBelow-cases (λ channel. channel.a) channels i k x here a)) (λ b. inl (inr b)) at)

module _ (channels : List Channel) (table : List Bool) (n i : ℕ) (x : Channel) (here : slice_get channels i ≡ Some x)
    (marks : Marks table n (λ k. IsKeyBelow (λ channel. channel.a) channels (i + 1) k ⊎ IsPassBelow (λ channel. channel.b) (λ channel. not (comes_out channel)) channels i k)) where
  -- and at its end b too
  pub source-b : x.b < n → comes_out x ≡ false → Marks (set table x.b true) n (IsSourceBelow channels (i + 1))
  source-b fits in_ =
      Marks-set table n x.b (λ k. IsKeyBelow (λ channel. channel.a) channels (i + 1) k ⊎ IsPassBelow (λ channel. channel.b) (λ channel. not (comes_out channel)) channels i k) (IsSourceBelow channels (i + 1)) fits marks
      (λ k at. ⊎_elim (λ a. inl a) (λ b. inr (IsPassBelow-more (λ channel. channel.b) (λ channel. not (comes_out channel)) channels i k b)) at)
      (inr (IsPassBelow-hit (λ channel. channel.b) (λ channel. not (comes_out channel)) channels i x here (ap not in_)))
      (λ k at. ⊎_elim (λ a. inl (inl a)) (λ b. ⊎_elim (λ old. inl (inr old)) (λ e. inr e.0) (IsPassBelow-cases (λ channel. channel.b) (λ channel. not (comes_out channel)) channels i k x here b)) at)

  -- but not there
  pub source-same : comes_out x ≡ true → Marks table n (IsSourceBelow channels (i + 1))
  source-same out =
      Marks-same table n (λ k. IsKeyBelow (λ channel. channel.a) channels (i + 1) k ⊎ IsPassBelow (λ channel. channel.b) (λ channel. not (comes_out channel)) channels i k) (IsSourceBelow channels (i + 1)) marks
      (λ k at. ⊎_elim (λ a. inl a) (λ b. inr (IsPassBelow-more (λ channel. channel.b) (λ channel. not (comes_out channel)) channels i k b)) at)
      (λ k at. ⊎_elim (λ a. inl a) (λ b. inr (IsPassBelow-miss (λ channel. channel.b) (λ channel. not (comes_out channel)) channels i k x here (ap not out) b)) at)
