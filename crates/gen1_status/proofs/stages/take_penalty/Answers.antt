use Rattle.gen1_layout.proofs.Words.{active_in, active_ok, add-one, arith, member_in, refl, ℕ}
use Rattle.std.proofs.Common.{max, ◌+◌, ◌/◌, ◌≡◌}
use Rattle.gen1_stats.specs.declared.member.Status.TheVariants.{Asleep, Burned, Frozen, Healthy, Paralysed, Poisoned}
use Rattle.gen1_machine.specs.CurrentStats.{with_penalty_of}
use Rattle.gen1_machine.specs.Stages.{at_stage, divided_times}
use Rattle.gen1_status.proofs.Statuses.{changed_active-same}
use Rattle.gen1_status.proofs.stages.take_penalty.Goals as goal

pub returns-in-Paralysed : goal.returns-in-Paralysed
unfolding with_penalty_of
returns-in-Paralysed c =
    record {
      stands = λ g f h.
          let a = active_in c.args.side f in
          let own : ℕ = at_stage a.stages.speed (member_in c.args.side f).speed in
          let stage = c.stage-stage.ensures.stands g f h in
          let speed = c.current_stat-speed.ensures.stands g f h refl in
          let quartered : divided_times 4 (a.speed_penalties + 1) own ≡ max 1 (divided_times 4 a.speed_penalties own / 4) = rw add-one refl in
          let ok = (active_ok c.args.side h).stages in
          rw c.in-Paralysed.is (c.put_speed.ensures.stands g f (with_penalty_of Paralysed) (a.speed_penalties + 1) h (rw stage refl) (omega arith) (omega (arith, ok.speed)));
    }

pub returns-in-Burned : goal.returns-in-Burned
unfolding with_penalty_of
returns-in-Burned c =
    record {
      stands = λ g f h.
          let a = active_in c.args.side f in
          let own : ℕ = at_stage a.stages.attack (member_in c.args.side f).attack in
          let stage = c.stage-stage-in-Burned.ensures.stands g f h in
          let attack = c.current_stat-attack.ensures.stands g f h refl in
          let halved : divided_times 2 (a.attack_penalties + 1) own ≡ max 1 (divided_times 2 a.attack_penalties own / 2) = rw add-one refl in
          let ok = (active_ok c.args.side h).stages in
          rw c.in-Burned.is (c.put_attack.ensures.stands g f (with_penalty_of Burned) (a.attack_penalties + 1) h (rw stage refl) (omega arith) (omega (arith, ok.attack)));
    }

pub returns-in-Healthy : goal.returns-in-Healthy
unfolding with_penalty_of
returns-in-Healthy c = record { stands = λ g f h. rw (c.in-Healthy.is, changed_active-same c.args.side (with_penalty_of Healthy) f refl) h }

pub returns-in-Asleep : goal.returns-in-Asleep
unfolding with_penalty_of
returns-in-Asleep c = record { stands = λ g f h. rw (c.in-Asleep.is, changed_active-same c.args.side (with_penalty_of (Asleep c.in-Asleep.turns c.in-Asleep.marked)) f refl) h }

pub returns-in-Poisoned : goal.returns-in-Poisoned
unfolding with_penalty_of
returns-in-Poisoned c = record { stands = λ g f h. rw (c.in-Poisoned.is, changed_active-same c.args.side (with_penalty_of Poisoned) f refl) h }

pub returns-in-Frozen : goal.returns-in-Frozen
unfolding with_penalty_of
returns-in-Frozen c = record { stands = λ g f h. rw (c.in-Frozen.is, changed_active-same c.args.side (with_penalty_of Frozen) f refl) h }
