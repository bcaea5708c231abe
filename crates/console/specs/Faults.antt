-- Layer, number and place of each fault of a line.
use Rattle.definitions.specs.declared.FaultCode.{FaultCode}
use Rattle.console.specs.declared.command.LineFault.{LineFault}
use Rattle.console.specs.declared.command.LineFault.TheVariants.{BadWord, TooLarge}

abbrev pub line_code : LineFault → FaultCode
line_code (BadWord at) = record { layer = 4; number = 19; place = at }
line_code (TooLarge at) = record { layer = 4; number = 20; place = at }
