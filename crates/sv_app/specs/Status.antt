-- The numbers with which the program ends.
use Rattle.std.specs.Prelude.{ℕ}
use Rattle.sv_app.specs.declared.status.Status.{Status}
use Rattle.sv_app.specs.declared.status.Status.TheVariants.{Clean, Found, Refused, Usage, ReadFault}
use Rattle.sv_app.specs.declared.status.Status.TheVariants.{WriteFault, Memory, TooLong}

abbrev pub number_of : Status → ℕ
number_of Clean = 0
number_of Found = 1
number_of Refused = 2
number_of Usage = 3
number_of ReadFault = 4
number_of WriteFault = 5
number_of Memory = 6
number_of TooLong = 7
