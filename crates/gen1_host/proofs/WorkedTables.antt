-- Worked examples: what rows make of a table (docs/PROOFS.md, "Worked examples").
use Rattle.std.proofs.Common.{None, [], false, refl, replicate, true, ℕ, ◌≡◌, ◌∷◌}
use Rattle.gen1_machine.specs.declared.event.Event.TheVariants.{Win}
use Rattle.gen1_machine.specs.declared.side.Side.TheVariants.{One, Two}
use Rattle.gen1_machine.specs.declared.terms.Outcome.TheVariants.{Tie}
use Rattle.gen1_machine.specs.State.{first_state, usual_terms}
use Rattle.gen1_machine.proofs.WorkedRules.{tauros}
use Rattle.gen1_player.specs.Telling.{told, told_all}
use Rattle.gen1_host.specs.Table.{after_row, Ended, Forfeit, Kept, OfferDraw, Refused, replies_to, reply_to_row, Table, table_after, TableOver}
use Rattle.gen1_player.specs.declared.teller.HpForm.TheVariants.{Bar}
use Rattle.gen1_host.specs.Hosts.{first_teller}
use Rattle.gen1_host.specs.Messages.{message, notice}

-- A table of two Tauros before their first update.
abbrev table : Table
table = record {
  course = record { state = first_state usual_terms (tauros ∷ []) (tauros ∷ []) (replicate 10 0); number = 0; events = []; since = [] };
  one = first_teller Bar One;
  two = first_teller Bar Two;
  ending = None;
  draw = None;
  rules = record { may_cancel = false; late_forfeits = true };
}

-- Draws (docs/MECHANICS.md, "Hosts"): only the other side accepts an offer, and then nothing more happens.

one_offer : replies_to (OfferDraw One ∷ OfferDraw One ∷ OfferDraw Two ∷ Forfeit One ∷ []) table ≡ Kept ∷ Kept ∷ Ended ∷ Refused TableOver ∷ []
unfolding replies_to reply_to_row after_row
one_offer = refl

an_agreed_draw : (notice (table_after (OfferDraw Two ∷ OfferDraw One ∷ []) table)).outcome ≡ Tie
unfolding table_after reply_to_row after_row
an_agreed_draw = refl

-- A forfeit (docs/MECHANICS.md, "Hosts"): the only event is the other side's win, and the number is one more.
a_forfeit : ((message One (after_row (Forfeit One) table)).events ≡ Win Two ∷ []) × ((message Two (after_row (Forfeit One) table)).number ≡ 1)
unfolding reply_to_row after_row told_all told
a_forfeit = (refl, refl)
