-- Sending one text after another.
use Rattle.std.proofs.Common.{◌≡◌, ℕ, ◌<◌, suc, List, ◌++◌, length, take, drop, get_or, Option, sym, ap, ◌∙◌, subst, append_assoc, Bor}
use Rattle.std.specs.List.{flat_map}
use Rattle.std.specs.Io.KnownBytes.{Appends}
use Rattle.std.proofs.KnownBytes.{Appends-trans}
use Rattle.std.proofs.Math.Seq.{drop-cons}
use Rattle.std.proofs.Common.{take-append-drop}
use Rattle.std.proofs.lemmas.Grind.{flat_map-append}
use Rattle.gen1_devices.specs.Output.{AppendsFront}

-- A text and then a prefix of the next text are a prefix of both together.
pub appends_front_after : {b c : Option (List ℕ)} {text : List ℕ} (a : Option (List ℕ)) (done more : List ℕ) → Appends a b done → AppendsFront b c text → AppendsFront a c (done ++ (text ++ more))
appends_front_after {b = b} {c = c} {text = text} a done more p q = record {
  front = done ++ q.front;
  rest = q.rest ++ more;
  split = ap (λ l. done ++ (l ++ more)) q.split ∙ ap (λ l. done ++ l) (append_assoc q.front q.rest more) ∙ sym (append_assoc done q.front (q.rest ++ more));
  written = Appends-trans a b c done q.front p q.written;
}

split_around : {X A : Type 0} (f : X → List A) (xs : List X) (i : ℕ) (d : X) → i < length xs → flat_map f xs ≡ flat_map f (take i xs) ++ (f (get_or xs i d) ++ flat_map f (drop (suc i) xs))
split_around f xs i d h =
    ap (flat_map f) (sym (take-append-drop i xs)) ∙ flat_map-append f (take i xs) (drop i xs) ∙ ap (λ l. flat_map f (take i xs) ++ flat_map f l) (drop-cons xs i d h)

-- A prefix of one piece was sent, after all the pieces before it.
pub sends_stopped : (a b c : Option (List ℕ)) (pieces : List (Bor (List ℕ))) (i : ℕ) (d : Bor (List ℕ)) → i < length pieces
    → Appends a b (flat_map (λ p. p.now) (take i pieces)) → AppendsFront b c (get_or pieces i d).now → AppendsFront a c (flat_map (λ p. p.now) pieces)
sends_stopped a b c pieces i d h p q = subst (AppendsFront a c) (sym (split_around (λ p. p.now) pieces i d h)) (appends_front_after a _ _ p q)
