use Rattle.std.proofs.Common.{ap, arith, map, sym, ℕ, [], ◌*◌, ◌+◌, ◌-◌, ◌∙◌, ◌≡◌, ◌∷◌}
use Rattle.std.proofs.lemmas.List.{map-append}
use Rattle.gen1_random.proofs.Drawing.{numbers_to-more, sample-lawful, sample-members}
use Rattle.gen1_random.specs.Teams.{numbers_to, sample, sample_team, sheet_of}
use Rattle.gen1_random.proofs.teams.sample_members.Goals.{After-loop-place}
use Rattle.gen1_random.proofs.teams.sample_members.Goals as goal

pub sample-requires : goal.sample-requires
sample-requires c = omega (arith, c.from.ensures)

pub loop-place-preserved : goal.loop-place-preserved
loop-place-preserved c =
    let f = λ (place : ℕ). sheet_of (sample (6 * (c.args.number - 1) + place)) in
    let same : 6 * (c.from.result - 1) + c.loop-place.place + 1 ≡ 6 * (c.args.number - 1) + (c.loop-place.place + 1) = omega (arith, c.from.ensures) in
    let next : c.sample.result ≡ f (c.loop-place.place + 1) = c.sample.ensures ∙ ap (λ (row : ℕ). sheet_of (sample row)) same in
    record {
      made = rw (c.push.ensures.items, c.loop-place.invariant.made, next)
          (sym (ap (map f) (numbers_to-more c.loop-place.place) ∙ map-append f (numbers_to c.loop-place.place) ((c.loop-place.place + 1) ∷ [])));
      size = omega (arith, c.loop-place.invariant.size, c.push.ensures.len);
    }

made : (c : After-loop-place) → c.loop-place.members.items ≡ sample_team c.args.number
unfolding sample_team
made c =
    let all : c.loop-place.place ≡ 6 = omega arith in
    c.loop-place.invariant.made ∙ ap (λ (n : ℕ). map (λ (place : ℕ). sheet_of (sample (6 * (c.args.number - 1) + place))) (numbers_to n)) all

pub returns-clause-value : goal.returns-clause-value
returns-clause-value c = made c

pub returns-clause-lawful : goal.returns-clause-lawful
returns-clause-lawful c = rw (made c) (sample-lawful c.args.number (omega arith) (omega arith))

pub returns-clause-members : goal.returns-clause-members
returns-clause-members c = rw (made c) (sample-members c.args.number (omega arith) (omega arith))
