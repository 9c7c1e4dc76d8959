-- What the pushes add to a buffer.
use Rattle.std.specs.Prelude.{ℕ, List, Result, Vec, OnOk}
use Rattle.reo_trace.specs.Buffer.{HasTaken}

-- the text is added at the end
abbrev pub Adds : {Z T E : Type 0} → Vec ℕ Z → Vec ℕ Z → Result T E → List ℕ → Type 0
Adds old new result text = OnOk result (HasTaken old new text)
