-- The modes of input and output as the code has them, by the numbers that Codes gives them.
-- Not here: what is done in each mode, in input and output.
-- Assumes nothing.
use Rattle.std.specs.Prelude.{ℕ}
use Rattle.words.specs.declared.modes.InputMode.{InputMode}
use Rattle.words.specs.declared.modes.InputMode.TheVariants as In
use Rattle.words.specs.declared.modes.OutputMode.{OutputMode}
use Rattle.words.specs.declared.modes.OutputMode.TheVariants as Out
use Rattle.words.specs.Codes.{in_single, in_none, in_auto, in_echo, out_none, out_auto, out_control, out_single}

-- bits 1 and 2 of ICW
abbrev pub input_number : InputMode → ℕ
input_number In.Single = in_single
input_number In.NoInput = in_none
input_number In.Auto = in_auto
input_number In.Echo = in_echo

-- bits 1 and 2 of OCW
abbrev pub output_number : OutputMode → ℕ
output_number Out.NoOutput = out_none
output_number Out.Auto = out_auto
output_number Out.Control = out_control
output_number Out.Single = out_single
