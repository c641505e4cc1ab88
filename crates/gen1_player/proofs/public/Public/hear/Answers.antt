use Rattle.gen1_player.proofs.HeardSides.{hears_activate, hears_clear, hears_fault, hears_nothing, hears_tie, hears_turn, hears_win}
use Rattle.gen1_player.proofs.public.Public.hear.Goals as goal

pub returns-in-Turn : goal.returns-in-Turn
returns-in-Turn c = hears_turn c.args.event.now c.args.self.now c.in-Turn.number c.number-self.result c.in-Turn.is c.number-self.ensures.value

pub returns-in-ClearAll : goal.returns-in-ClearAll
returns-in-ClearAll c = hears_clear c.args.event.now c.args.self.now c.clear.new.self c.clear-in-ClearAll.new.self c.in-ClearAll.is c.clear.ensures c.clear-in-ClearAll.ensures

pub returns-in-Win : goal.returns-in-Win
returns-in-Win c = hears_win c.args.event.now c.args.self.now c.in-Win.side c.won-self.result c.in-Win.is c.won-self.ensures

pub returns-in-Tie : goal.returns-in-Tie
returns-in-Tie c = hears_tie c.args.event.now c.args.self.now c.in-Tie.is

pub returns-in-Fault : goal.returns-in-Fault
returns-in-Fault c = hears_fault c.args.event.now c.args.self.now c.in-Fault.code c.number.result c.in-Fault.is c.number.ensures.value

pub returns-in-Activate : goal.returns-in-Activate
returns-in-Activate c = hears_activate c.args.event.now c.args.self.now c.activate.new.self c.in-Activate.who c.in-Activate.what c.in-Activate.is c.activate.ensures

pub returns-in_default : goal.returns-in_default
returns-in_default c = hears_nothing c.args.event.now c.args.self.now c.requires.of_no_side c.in_default.not-Turn c.in_default.not-ClearAll c.in_default.not-Win c.in_default.not-Tie c.in_default.not-Fault c.in_default.not-Activate
