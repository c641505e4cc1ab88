-- The replies to submissions so far, and what comes after them.
use Rattle.std.proofs.Common.{Err, List, Ok, Option, Result, [], ap, append-nil, append_assoc, arith, drop, drop_of_length-le, get_or, length, refl, subst, suc, sym, ℕ, ◌++◌, ◌+◌, ◌<◌, ◌≡◌, ◌≤◌, ◌∙◌}
use Rattle.std.specs.Io.KnownBytes.{Appends}
use Rattle.std.proofs.KnownBytes.{Appends-nil, Appends-trans}
use Rattle.std.proofs.Math.Seq.{drop-cons}
use Rattle.gen1_machine.specs.declared.side.Side.{Side}
use Rattle.gen1_machine.specs.declared.event.Event.{Event}
use Rattle.gen1_machine.specs.Room.{Course, Reply, after as follows, reply_to}
use Rattle.gen1_devices.specs.Output.{AppendsFront}
use Rattle.gen1_devices.proofs.OutputLemmas.{appends_front_after}
use Rattle.gen1_room.specs.Rooms.{Holds, submission_at}
use Rattle.gen1_room.specs.declared.submission.Held.{Held}
use Rattle.battle_commands.specs.Asked.{Answers, Due, after, only, replies_due, text_of_reply}
use Rattle.battle_commands.specs.declared.fault.ToolFault.{ToolFault}
use Rattle.battle_commands.specs.declared.fault.ToolFault.TheVariants.{Calc, Json, Log, Memory, Pair, Read, Team, TooLong, Write}
use Rattle.battle_commands.proofs.Standing.{after_after}

-- the text of the reply to one submission
abbrev pub told : Course → Side × ℕ × ℕ → List ℕ
told c x = text_of_reply (reply_to c (submission_at x)) (follows c (submission_at x)).events

-- what was sent is the text of a reply
pub sent_reply : (reply r : Reply) (events : List Event) (text : List ℕ) (a b : Option (List ℕ)) (result : Result (Unit {0}) ToolFault) → reply ≡ r → text ≡ text_of_reply r events
    → Answers (only text) a b result → Answers (only (text_of_reply reply events)) a b result
sent_reply reply r events text a b result e t h =
    subst (λ (l : List ℕ). Answers (only l) a b result) (t ∙ ap (λ (x : Reply). text_of_reply x events) (sym e)) h

-- the submissions before an index were passed to the room, and the replies to them were written
pub record Heard (c : Course) (xs : List (Side × ℕ × ℕ)) (number : ℕ) (room : Held) (old now : Option (List ℕ)) : Type 0 where
  pub course : Course
  pub holds : Holds room course
  pub said : List ℕ
  pub written : Appends old now said
  pub goes_on : replies_due c xs ≡ after said (replies_due course (drop number xs))

pub heard_first : (c : Course) (xs : List (Side × ℕ × ℕ)) (room : Held) (old : Option (List ℕ)) → Holds room c → Heard c xs 0 room old old
heard_first c xs room old h = record { course = c; holds = h; said = []; written = Appends-nil old; goes_on = refl }

due_here : (c : Course) (xs : List (Side × ℕ × ℕ)) (number : ℕ) (d : Side × ℕ × ℕ) → number < length xs
    → replies_due c (drop number xs) ≡ after (told c (get_or xs number d)) (replies_due (follows c (submission_at (get_or xs number d))) (drop (number + 1) xs))
unfolding replies_due
due_here c xs number d inside =
    ap (λ (l : List (Side × ℕ × ℕ)). replies_due c l) (drop-cons xs number d inside)
    ∙ ap (λ (n : ℕ). after (told c (get_or xs number d)) (replies_due (follows c (submission_at (get_or xs number d))) (drop n xs)))
    (let e : suc number ≡ number + 1 = omega arith in e)

due_then : {c : Course} (xs : List (Side × ℕ × ℕ)) (number : ℕ) {room : Held} {a b : Option (List ℕ)} (h : Heard c xs number room a b) (d : Side × ℕ × ℕ) → number < length xs
    → replies_due c xs ≡ after h.said (after (told h.course (get_or xs number d)) (replies_due (follows h.course (submission_at (get_or xs number d))) (drop (number + 1) xs)))
due_then xs number h d inside = h.goes_on ∙ ap (after h.said) (due_here h.course xs number d inside)

pub heard_more : {c : Course} (xs : List (Side × ℕ × ℕ)) (number : ℕ) {room new : Held} {a b e : Option (List ℕ)} (h : Heard c xs number room a b) (d : Side × ℕ × ℕ) → number < length xs
    → Holds new (follows h.course (submission_at (get_or xs number d))) → Appends b e (told h.course (get_or xs number d)) → Heard c xs (number + 1) new a e
heard_more xs number {a = a} {b = b} {e = e} h d inside holds wrote = record {
  course = follows h.course (submission_at (get_or xs number d));
  holds = holds;
  said = h.said ++ told h.course (get_or xs number d);
  written = Appends-trans a b e h.said (told h.course (get_or xs number d)) h.written wrote;
  goes_on = due_then xs number h d inside ∙ after_after h.said (told h.course (get_or xs number d)) _;
}

-- an error after a text that was written, and before one that was to follow: it is one of a device or of memory

pub fault_between : (said text : List ℕ) (rest : Due) (a b e : Option (List ℕ)) (fault : ToolFault) → Appends a b said → Answers {T = Unit {0}} (only text) b e (Err fault)
    → Answers {T = Unit {0}} (after said (after text rest)) a e (Err fault)
fault_between said text rest a b e Read p q = appends_front_after a said rest.text p q
fault_between said text rest a b e Write p q = appends_front_after a said rest.text p q
fault_between said text rest a b e Memory p q = appends_front_after a said rest.text p q
fault_between said text rest a b e (Json fault) p q = absurd (let n = q.0 in cc)
fault_between said text rest a b e TooLong p q = absurd (let n = q.0 in cc)
fault_between said text rest a b e (Team side place refusal) p q = absurd (let n = q.0 in cc)
fault_between said text rest a b e (Pair number refusal) p q = absurd (let n = q.0 in cc)
fault_between said text rest a b e (Log number) p q = absurd (let n = q.0 in cc)
fault_between said text rest a b e Calc p q = absurd (let n = q.0 in cc)

pub fault_first : (text : List ℕ) (rest : Due) (b e : Option (List ℕ)) (fault : ToolFault) → Answers {T = Unit {0}} (only text) b e (Err fault) → Answers {T = Unit {0}} (after text rest) b e (Err fault)
fault_first text rest b e fault q = fault_between [] text rest b b e fault (Appends-nil b) q

pub heard_fault : {c : Course} (xs : List (Side × ℕ × ℕ)) (number : ℕ) {room : Held} {a b : Option (List ℕ)} (h : Heard c xs number room a b) (d : Side × ℕ × ℕ) (e : Option (List ℕ)) (fault : ToolFault)
    → number < length xs → Answers {T = Unit {0}} (only (told h.course (get_or xs number d))) b e (Err fault) → Answers {T = Unit {0}} (replies_due c xs) a e (Err fault)
heard_fault xs number {a = a} {b = b} h d e fault inside q =
    subst (λ (due : Due). Answers {T = Unit {0}} due a e (Err fault)) (sym (due_then xs number h d inside)) (fault_between h.said _ _ a b e fault h.written q)

pub heard_all : {c : Course} (x : Unit {0}) (xs : List (Side × ℕ × ℕ)) (number : ℕ) {room : Held} {a b : Option (List ℕ)} (h : Heard c xs number room a b) → length xs ≤ number
    → Answers (replies_due c xs) a b (Ok x)
unfolding replies_due
heard_all x xs number {a = a} {b = b} h end =
    let due = h.goes_on ∙ ap (λ (l : List (Side × ℕ × ℕ)). after h.said (replies_due h.course l)) (drop_of_length-le xs end) in
    subst (λ (d : Due). Answers d a b (Ok x)) (sym due) (refl, subst (λ (l : List ℕ). Appends a b l) (sym (append-nil h.said)) h.written)

-- what follows a text that was written completely
front_behind : (text : List ℕ) (due : Due) (a b e : Option (List ℕ)) → Appends a b text → AppendsFront b e due.text → AppendsFront a e (text ++ due.text)
front_behind text due a b e p q = record {
  front = text ++ q.front;
  rest = q.rest;
  split = ap (λ (l : List ℕ). text ++ l) q.split ∙ sym (append_assoc text q.front q.rest);
  written = Appends-trans a b e text q.front p q.written;
}

fault_behind : (text : List ℕ) (due : Due) (a b e : Option (List ℕ)) (fault : ToolFault) → Appends a b text → Answers {T = Unit {0}} due b e (Err fault) → Answers {T = Unit {0}} (after text due) a e (Err fault)
fault_behind text due a b e Read p q = front_behind text due a b e p q
fault_behind text due a b e Write p q = front_behind text due a b e p q
fault_behind text due a b e Memory p q = front_behind text due a b e p q
fault_behind text due a b e (Json fault) p q = (q.0, Appends-trans a b e text due.text p q.1)
fault_behind text due a b e TooLong p q = (q.0, Appends-trans a b e text due.text p q.1)
fault_behind text due a b e (Team side place refusal) p q = (q.0, Appends-trans a b e text due.text p q.1)
fault_behind text due a b e (Pair number refusal) p q = (q.0, Appends-trans a b e text due.text p q.1)
fault_behind text due a b e (Log number) p q = (q.0, Appends-trans a b e text due.text p q.1)
fault_behind text due a b e Calc p q = (q.0, Appends-trans a b e text due.text p q.1)

pub answers_behind : (text : List ℕ) (due : Due) (a b e : Option (List ℕ)) (result : Result (Unit {0}) ToolFault) → Appends a b text → Answers due b e result → Answers (after text due) a e result
answers_behind text due a b e (Ok x) p q = (q.0, Appends-trans a b e text due.text p q.1)
answers_behind text due a b e (Err fault) p q = fault_behind text due a b e fault p q
