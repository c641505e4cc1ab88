-- The two sides of a battle (docs/MECHANICS.md, "Events").
use Rattle.gen1_machine.specs.declared.side.Side.{Side}
use Rattle.gen1_machine.specs.declared.side.Side.TheVariants.{One, Two}

-- The foe of a side.
abbrev pub other : Side → Side
other One = Two
other Two = One
