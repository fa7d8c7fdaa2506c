-- Searches whose pieces make up the whole haystack.
use Rattle.std.proofs.Common.{ℕ, ◌≡◌, ◌+◌, ◌-◌, Bool, List, [], ◌∷◌, ◌++◌, length, take, drop, Option, Some, None, refl}
use Rattle.std.proofs.Common.{sym, ap, ap₂, ◌∙◌, subst, arith, append-nil}
use Rattle.std.proofs.lemmas.List.{append_assoc, length-append}
use Rattle.std.proofs.lemmas.Option.{slice_get_past}
use Rattle.std.proofs.Math.Seq.{drop-append_seam, take-append_seam}
use Rattle.automata_hybrid.proofs.Words.{Anchored, HalfMatch, Machine}
use Rattle.automata_hybrid.specs.Pieces.Answers.{IsPieceAt, IsWhole, WasGiven, from_first}
use Rattle.automata_hybrid.specs.Pieces.State.{PiecesView}
use Rattle.automata_hybrid.specs.Pieces.Whole.{HasReadAll, PiecesAreWhole, bytes_of_pieces, whole_input}

-- a piece lies in the joined haystack after the bytes before it
pub piece_at : (mode : Anchored) (earliest : Bool) (xs piece rest : List ℕ)
    → IsPieceAt (whole_input (xs ++ (piece ++ rest)) mode earliest) (length xs) piece
piece_at mode earliest xs piece rest = record {
  within = omega (arith, whole);
  bytes = sym (ap₂ (λ n s. take n (drop s h)) width start
      ∙ (ap (take (length piece)) (drop-append_seam xs (piece ++ rest)) ∙ take-append_seam piece rest));
} where
  h : List ℕ
  h = xs ++ (piece ++ rest)

  whole : length h ≡ length xs + (length piece + length rest)
  whole = length-append xs (piece ++ rest) ∙ ap (λ n. length xs + n) (length-append piece rest)

  start : 0 + length xs ≡ length xs
  start = omega arith

  width : 0 + length xs + length piece - (0 + length xs) ≡ length piece
  width = omega arith

-- a search that has read pieces was given the first bytes of each haystack that begins with them
given_all :
    (m : Machine) (mode : Anchored) (earliest : Bool) (pieces : List (List ℕ)) (p : PiecesView) (rest : List ℕ)
    → HasReadAll m mode earliest pieces p
    → WasGiven m (whole_input (bytes_of_pieces pieces ++ rest) mode earliest) (length (bytes_of_pieces pieces)) p
given_all m mode earliest [] p rest begun =
    begun.given (whole_input rest mode earliest)
    (record { undone = omega arith; inside = omega arith; moded = refl; follows = refl; early = refl })
given_all m mode earliest (piece ∷ earlier) p rest (before, read, on) =
    subst (λ (h : List ℕ). WasGiven m (whole_input h mode earliest) (length (bytes_of_pieces earlier ++ piece)) p)
    (sym (append_assoc (bytes_of_pieces earlier) piece rest))
    (subst (λ n. WasGiven m (whole_input (bytes_of_pieces earlier ++ (piece ++ rest)) mode earliest) n p)
    (sym (length-append (bytes_of_pieces earlier) piece))
    (on (whole_input (bytes_of_pieces earlier ++ (piece ++ rest)) mode earliest) (length (bytes_of_pieces earlier))
    (given_all m mode earliest earlier before (piece ++ rest) read)
    (piece_at mode earliest (bytes_of_pieces earlier) piece rest)))

first_zero : (half : Option HalfMatch) → from_first 0 half ≡ half
first_zero None = refl
first_zero (Some half) =
    let same : 0 + half.offset ≡ half.offset = omega arith in
    ap (λ n. Some (record { pattern = half.pattern; offset = n })) same

pub pieces_are_whole : PiecesAreWhole
pieces_are_whole m mode earliest pieces p half bytes read ends =
    subst (IsWhole m (whole_input h mode earliest)) (first_zero half)
    (ends (whole_input h mode earliest) (record {
      bytes = bytes;
      given =
          subst (λ n. WasGiven m (whole_input h mode earliest) n p) all
          (subst (λ (ys : List ℕ). WasGiven m (whole_input ys mode earliest) (length h) p) (append-nil h)
          (given_all m mode earliest pieces p [] read));
      followed = slice_get_past h (length h) (omega arith);
    }))
  where
    h : List ℕ
    h = bytes_of_pieces pieces

    all : length h ≡ length h - 0
    all = omega arith
