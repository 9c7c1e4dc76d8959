-- The first port of each node, as lines grow.
use Rattle.std.proofs.Common.{◌≡◌, ℕ, ◌+◌, ◌≤◌, ◌==◌, if◌then◌else◌, Bool, true, false, List, [], ◌∷◌, ◌++◌, length, Option, Some, None, refl, sym, ap, subst, ◌∙◌, arith}
use Rattle.std.specs.Option.{option_or}
use Rattle.reo_value.specs.declared.op.Way.{Way}
use Rattle.reo_net.specs.declared.circuit.Channel.{Channel}
use Rattle.reo_document.specs.declared.line.Line.{Line}
use Rattle.reo_document.specs.declared.line.Line.TheVariants as line
use Rattle.reo_document.specs.Placed.{port_from}
use Rattle.reo_document.specs.Builder.{Claims, port_count, ArePorts}

or_none : {A : Type 0} (o : Option A) → option_or o None ≡ o
or_none None = refl
or_none (Some x) = refl

-- a port more is the first of its node, where that has none
port_from-push : (number : ℕ) (lines : List Line) (way : Way) (at node : ℕ)
    → port_from number (lines ++ line.Port way at ∷ []) node ≡ option_or (port_from number lines node) (if at == node then Some (number + port_count lines, way) else None)
port_from-push number [] way at node = ap (λ n. if at == node then Some (n, way) else None) none
  where
    none : number ≡ number + 0
    none = omega arith
port_from-push number (line.Port other to ∷ lines) way at node = by (to == node) (port_from-push (number + 1) lines way at node)
  where
    count : number + 1 + port_count lines ≡ number + (port_count lines + 1)
    count = omega arith

    by : (here : Bool) → port_from (number + 1) (lines ++ line.Port way at ∷ []) node ≡ option_or (port_from (number + 1) lines node) (if at == node then Some (number + 1 + port_count lines, way) else None)
        → (if here then Some (number, other) else port_from (number + 1) (lines ++ line.Port way at ∷ []) node)
        ≡ option_or (if here then Some (number, other) else port_from (number + 1) lines node) (if at == node then Some (number + (port_count lines + 1), way) else None)
    by true again = refl
    by false again = again ∙ ap (λ n. option_or (port_from (number + 1) lines node) (if at == node then Some (n, way) else None)) count
port_from-push number (line.Channel channel ∷ lines) way at node = port_from-push number lines way at node

port_from-channel : (number : ℕ) (lines : List Line) (channel : Channel) (node : ℕ) → port_from number (lines ++ line.Channel channel ∷ []) node ≡ port_from number lines node
port_from-channel number [] channel node = refl
port_from-channel number (line.Port way at ∷ lines) channel node = ap (λ o. if at == node then Some (number, way) else o) (port_from-channel (number + 1) lines channel node)
port_from-channel number (line.Channel other ∷ lines) channel node = port_from-channel number lines channel node

count-port : (lines : List Line) (way : Way) (at : ℕ) → port_count (lines ++ line.Port way at ∷ []) ≡ port_count lines + 1
count-port [] way at = refl
count-port (line.Port other to ∷ lines) way at = ap (λ n. n + 1) (count-port lines way at)
count-port (line.Channel channel ∷ lines) way at = count-port lines way at

count-channel : (lines : List Line) (channel : Channel) → port_count (lines ++ line.Channel channel ∷ []) ≡ port_count lines
count-channel [] channel = refl
count-channel (line.Port way at ∷ lines) channel = ap (λ n. n + 1) (count-channel lines channel)
count-channel (line.Channel other ∷ lines) channel = count-channel lines channel

-- there are no more ports than lines
pub count_few : (lines : List Line) → port_count lines ≤ length lines
count_few [] = omega arith
count_few (line.Port way at ∷ lines) = omega (arith, count_few lines)
count_few (line.Channel channel ∷ lines) = omega (arith, count_few lines)

pub ports_new : (ports : List (Option (ℕ × Way))) (lines : List Line) → ports ≡ [] → lines ≡ [] → ArePorts ports 0 lines
ports_new ports lines none empty =
    subst (λ ps. ArePorts ps 0 lines) (sym none) (subst (λ ls. ArePorts [] 0 ls) (sym empty) (record { first = λ node. refl; counted = refl }))

pub ports_claimed : (ports after : List (Option (ℕ × Way))) (count next : ℕ) (lines later : List Line) (way : Way) (at : ℕ) → ArePorts ports count lines → later ≡ lines ++ line.Port way at ∷ []
    → Claims ports after at (count, way) → next ≡ count + 1 → ArePorts after next later
ports_claimed ports after count next lines later way at are grown claims more = record {
  first = λ node.
      claims node ∙ ap (λ o. if at == node then option_or o (Some (count, way)) else o) (are.first node)
      ∙ ap (λ n. if at == node then option_or (port_from 0 lines node) (Some (n, way)) else port_from 0 lines node) (are.counted ∙ none) ∙ by node (at == node)
      ∙ sym (port_from-push 0 lines way at node) ∙ ap (λ ls. port_from 0 ls node) (sym grown);
  counted = more ∙ ap (λ n. n + 1) are.counted ∙ sym (count-port lines way at) ∙ ap port_count (sym grown);
}
  where
    none : port_count lines ≡ 0 + port_count lines
    none = omega arith

    by : (node : ℕ) (here : Bool) → (if here then option_or (port_from 0 lines node) (Some (0 + port_count lines, way)) else port_from 0 lines node)
        ≡ option_or (port_from 0 lines node) (if here then Some (0 + port_count lines, way) else None)
    by node true = refl
    by node false = sym (or_none (port_from 0 lines node))

pub ports_stay : (ports : List (Option (ℕ × Way))) (count : ℕ) (lines later : List Line) (channel : Channel) → ArePorts ports count lines → later ≡ lines ++ line.Channel channel ∷ []
    → ArePorts ports count later
ports_stay ports count lines later channel are grown = record {
  first = λ node. are.first node ∙ sym (port_from-channel 0 lines channel node) ∙ ap (λ ls. port_from 0 ls node) (sym grown);
  counted = are.counted ∙ sym (count-channel lines channel) ∙ ap port_count (sym grown);
}
