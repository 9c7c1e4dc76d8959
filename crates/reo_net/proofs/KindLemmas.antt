-- what follows of each kind of channel
use Rattle.std.proofs.Common.{◌≡◌, ◌⊎◌, inl, inr, ℕ, List, ◌++◌, length, suc, true, false, Option, Some, None, refl, sym, ◌∙◌}
use Rattle.reo_value.specs.declared.value.Value.{Value}
use Rattle.reo_net.specs.declared.kind.Kind.{Kind}
use Rattle.reo_net.specs.declared.kind.Kind.TheVariants.{Sync, Lossy, Drain, Fifo, Filter, Transform}
use Rattle.reo_net.specs.Kind.{is_fifo, first_content, Passes, Buffers, ChannelStep}

-- a buffer is a FIFO1
pub fifo_kind : (kind : Kind) → is_fifo kind ≡ true → (first : Option Value) × (kind ≡ Fifo first)
fifo_kind Sync e = cc
fifo_kind Lossy e = cc
fifo_kind Drain e = cc
fifo_kind (Fifo first) e = (first, refl)
fifo_kind (Filter guard) e = cc
fifo_kind (Transform fun) e = cc

-- a transition is one of a buffer, or one of a channel that is none and keeps what it has
pub step_cases : (texts : List (List ℕ)) (kind : Kind) (held a b new : Option Value) → ChannelStep texts kind held a b new
    → ((is_fifo kind ≡ true) × Buffers held a b new) ⊎ ((is_fifo kind ≡ false) × Passes texts kind a b × (new ≡ held))
step_cases texts Sync held a b new step = inr (refl, step.0, step.1)
step_cases texts Lossy held a b new step = inr (refl, step.0, step.1)
step_cases texts Drain held a b new step = inr (refl, step.0, step.1)
step_cases texts (Fifo first) held a b new step = inl (refl, step)
step_cases texts (Filter guard) held a b new step = inr (refl, step.0, step.1)
step_cases texts (Transform fun) held a b new step = inr (refl, step.0, step.1)

pub buffer_step : (texts : List (List ℕ)) (kind : Kind) (held a b new : Option Value) → is_fifo kind ≡ true → Buffers held a b new → ChannelStep texts kind held a b new
buffer_step texts Sync held a b new is step = cc
buffer_step texts Lossy held a b new is step = cc
buffer_step texts Drain held a b new is step = cc
buffer_step texts (Fifo first) held a b new is step = step
buffer_step texts (Filter guard) held a b new is step = cc
buffer_step texts (Transform fun) held a b new is step = cc

pub pass_step : (texts : List (List ℕ)) (kind : Kind) (held a b new : Option Value) → is_fifo kind ≡ false → Passes texts kind a b → new ≡ held → ChannelStep texts kind held a b new
pass_step texts Sync held a b new is passes kept = (passes, kept)
pass_step texts Lossy held a b new is passes kept = (passes, kept)
pass_step texts Drain held a b new is passes kept = (passes, kept)
pass_step texts (Fifo first) held a b new is passes kept = cc
pass_step texts (Filter guard) held a b new is passes kept = (passes, kept)
pass_step texts (Transform fun) held a b new is passes kept = (passes, kept)

-- what a buffer holds after a transition is determined
pub same_buffer : (held a b x y : Option Value) → Buffers held a b x → Buffers held a b y → x ≡ y
same_buffer None (Some d) None x y p q = p ∙ sym q
same_buffer (Some h) None (Some d) x y p q = p.1 ∙ sym q.1
same_buffer None None b x y p q = absurd p
same_buffer None (Some d) (Some e) x y p q = absurd p
same_buffer (Some h) (Some d) b x y p q = absurd p
same_buffer (Some h) None None x y p q = absurd p

-- what a channel holds after a transition is determined
pub same_move : (texts : List (List ℕ)) (kind : Kind) (held a b x y : Option Value) → ChannelStep texts kind held a b x → ChannelStep texts kind held a b y → x ≡ y
same_move texts Sync held a b x y p q = p.1 ∙ sym q.1
same_move texts Lossy held a b x y p q = p.1 ∙ sym q.1
same_move texts Drain held a b x y p q = p.1 ∙ sym q.1
same_move texts (Fifo first) held a b x y p q = same_buffer held a b x y p q
same_move texts (Filter guard) held a b x y p q = p.1 ∙ sym q.1
same_move texts (Transform fun) held a b x y p q = p.1 ∙ sym q.1

no_quiet_buffer : (held x : Option Value) → Buffers held None None x → ⊥
no_quiet_buffer None x p = p
no_quiet_buffer (Some h) x p = p

-- a channel of which no end fires makes no transition
pub no_quiet_move : (texts : List (List ℕ)) (kind : Kind) (held x : Option Value) → ChannelStep texts kind held None None x → ⊥
no_quiet_move texts Sync held x p = p.0
no_quiet_move texts Lossy held x p = p.0
no_quiet_move texts Drain held x p = p.0
no_quiet_move texts (Fifo first) held x p = no_quiet_buffer held x p
no_quiet_move texts (Filter guard) held x p = p.0
no_quiet_move texts (Transform fun) held x p = p.0

-- a FIFO1 adds one place to a state, and no other kind does
module _ (rest : List (Option Value)) where
  pub fifo_content : (kind : Kind) → is_fifo kind ≡ true → length (first_content kind ++ rest) ≡ suc (length rest)
  fifo_content Sync e = cc
  fifo_content Lossy e = cc
  fifo_content Drain e = cc
  fifo_content (Fifo first) e = refl
  fifo_content (Filter guard) e = cc
  fifo_content (Transform fun) e = cc

  pub other_content : (kind : Kind) → is_fifo kind ≡ false → first_content kind ++ rest ≡ rest
  other_content Sync e = refl
  other_content Lossy e = refl
  other_content Drain e = refl
  other_content (Fifo first) e = cc
  other_content (Filter guard) e = refl
  other_content (Transform fun) e = refl
