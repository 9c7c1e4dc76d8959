-- the pairs of the channels, one channel after the other
use Rattle.std.proofs.Common.{◌≡◌, ℕ, ◌+◌, List, [], ◌∷◌, ◌++◌, length, slice_get, cond, true, false, Some, ap, ◌∙◌, subst, sym, add-one}
use Rattle.std.specs.Option.{option_map_or}
use Rattle.reo_net.specs.declared.circuit.Channel.{Channel}
use Rattle.reo_net.specs.Kind.{is_fifo}
use Rattle.reo_cut.specs.Labels.{pairs_of, pairs_below}

module _ (P : List (ℕ × ℕ) → Type 0) (channels : List Channel) (k : ℕ) (channel : Channel) (found : slice_get channels k ≡ Some channel) where
  abbrev count : ℕ
  count = length channels

  below_next : pairs_below channels (k + 1) ≡ pairs_of (length channels) k channel ++ pairs_below channels k
  below_next = ap (pairs_below channels) (add-one k) ∙ ap (λ o. option_map_or (pairs_of (length channels) k) o [] ++ pairs_below channels k) found

  pub joined_next : is_fifo channel.kind ≡ false → P ((k, length channels + channel.b) ∷ (k, length channels + channel.a) ∷ pairs_below channels k) → P (pairs_below channels (k + 1))
  joined_next other are =
      subst (λ pairs. P pairs) (sym (below_next ∙ ap (λ b. cond b [] ((k, length channels + channel.b) ∷ (k, length channels + channel.a) ∷ []) ++ pairs_below channels k) other)) are

  pub same_next : is_fifo channel.kind ≡ true → P (pairs_below channels k) → P (pairs_below channels (k + 1))
  same_next fifo are =
      subst (λ pairs. P pairs) (sym (below_next ∙ ap (λ b. cond b [] ((k, length channels + channel.b) ∷ (k, length channels + channel.a) ∷ []) ++ pairs_below channels k) fifo)) are
