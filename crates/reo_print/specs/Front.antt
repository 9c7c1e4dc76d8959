-- Words that mirror the code: how lines of operations begin, made once for each port.
use Rattle.std.specs.Prelude.{◌≡◌, ℕ, List, slice_get, Option, Some}
use Rattle.reo_net.specs.declared.circuit.Port.{Port}
use Rattle.reo_print.specs.declared.front.Fronts.{Fronts}
use Rattle.reo_print.specs.Canonical.{get_line, put_front}

-- each text that there is for a port is this one
abbrev pub AreOf : (Option Port → List ℕ) → List Port → List (List ℕ) → Type 0
AreOf text_of ports texts = (port : ℕ) (text : List ℕ) → slice_get texts port ≡ Some text → text ≡ text_of (slice_get ports port)

pub record AreFronts (nodes : List (List ℕ)) (ports : List Port) (fronts : Fronts) : Type 0 where
  pub puts : AreOf (put_front nodes) ports fronts.puts
  pub gets : AreOf (get_line nodes) ports fronts.gets
