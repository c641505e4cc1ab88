use Rattle.gen1_player.proofs.HeardSides.{hears_one, hears_two}
use Rattle.gen1_player.proofs.public.Public.hear_of.Goals as goal

pub returns-in-One : goal.returns-in-One
returns-in-One c = hears_one c.args.event.now c.args.self.now c.args.side c.hear.new.self c.overhear.new.self c.requires.named c.in-One.is c.hear.ensures c.overhear.ensures

pub returns-in-Two : goal.returns-in-Two
returns-in-Two c =
    hears_two c.args.event.now c.args.self.now c.args.side c.hear-in-Two.new.self c.overhear-in-Two.new.self c.requires.named c.in-Two.is c.hear-in-Two.ensures c.overhear-in-Two.ensures
