use Rattle.std.proofs.Common.{◌≡◌}
use Rattle.gen1_layout.proofs.Words.{false, is_some, refl, sym, true, underway_in, ◌∙◌}
use Rattle.gen1_status.proofs.picks.keeps_going.Goals as goal

pub returns-then-is_on : goal.returns-then-is_on
returns-then-is_on c = record { stands = λ g f h. let one : is_some (underway_in c.args.side f).thrash ≡ true = sym (c.is_on.ensures.stands 1 refl g f h) ∙ c.if-is_on.true in rw one refl }

pub returns-then-is_on-2 : goal.returns-then-is_on-2
returns-then-is_on-2 c = record {
  stands = λ g f h.
      let one : is_some (underway_in c.args.side f).thrash ≡ false = sym (c.is_on.ensures.stands 1 refl g f h) ∙ c.if-is_on.false in
      let two : is_some (underway_in c.args.side f).trapping ≡ true = sym (c.is_on-2.ensures.stands 2 refl g f h) ∙ c.if-is_on-2.true in rw (one, two) refl;
}

pub returns : goal.returns
returns c = record {
  stands = λ g f h.
      let one : is_some (underway_in c.args.side f).thrash ≡ false = sym (c.is_on.ensures.stands 1 refl g f h) ∙ c.if-is_on.false in
      let two : is_some (underway_in c.args.side f).trapping ≡ false = sym (c.is_on-2.ensures.stands 2 refl g f h) ∙ c.if-is_on-2.false in rw (one, two) (c.is_on-3.ensures.stands 11 refl g f h);
}
