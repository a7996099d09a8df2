-- Worked examples of the definitions, by computation: names of the text "abba", whose wires' words are 5, 7, 9.
-- Assumes nothing.
use Rattle.std.specs.Prelude.{None, Some}
use Rattle.std.proofs.Common.{◌≡◌, ℕ, List, [], ◌∷◌, ◌++◌, map, replicate, get_or, refl}
use Rattle.laws.specs.Stretches.{stretch, same_bytes}
use Rattle.names.specs.Names.{Entry, lookup}
use Rattle.names.specs.Chains.{wrapping_sum, bucket_of, word_of, mix_in, mixed, hash_of, key_of, digit_of, entry, entries, link_of, link_at, next, reached}

abba : List ℕ
abba = 97 ∷ 98 ∷ 98 ∷ 97 ∷ []

-- ---- "ab" and "ba" collide in their bucket

collide : bucket_of (stretch abba 0 2) ≡ bucket_of (stretch abba 2 2)
unfolding abba stretch bucket_of wrapping_sum
collide = refl

two : List Entry
two = record { start = 2; len = 2; wire = 7 } ∷ record { start = 0; len = 2; wire = 5 } ∷ []

-- the area that holds these two, the first record linking to the second by the first digit of "ba"
area : List ℕ
area = 13731872342169092098 ∷ 8589934592 ∷ 0 ∷ 0 ∷ 5 ∷ 18130469231857238018 ∷ 0 ∷ 0 ∷ 2 ∷ 7 ∷ []

-- the head of their bucket is the first record's
heads : List ℕ
heads = replicate 195 0 ++ 1 ∷ replicate 60 0

area_holds : entries area 2 ≡ two
unfolding area two entries entry
area_holds = refl

key-is : get_or area 5 0 ≡ key_of (98 ∷ 97 ∷ [])
unfolding area key_of hash_of mixed word_of mix_in
key-is = refl

first_digit : digit_of (98 ∷ 97 ∷ []) 0 ≡ 1
unfolding digit_of key_of hash_of mixed word_of mix_in
first_digit = refl

link_is : link_at area 0 1 ≡ 2
unfolding area link_at link_of
link_is = refl

-- digits of the length and of the bytes, and past the end
length_digit : digit_of (98 ∷ 97 ∷ []) 23 ≡ 2
unfolding digit_of key_of hash_of mixed word_of mix_in
length_digit = refl

byte_digits : map (digit_of (98 ∷ 97 ∷ [])) (24 ∷ 25 ∷ 26 ∷ 27 ∷ 28 ∷ 31 ∷ 32 ∷ []) ≡ 1 ∷ 2 ∷ 0 ∷ 2 ∷ 1 ∷ 1 ∷ 0 ∷ []
unfolding digit_of key_of hash_of mixed word_of mix_in
byte_digits = refl

-- the search for "ba" comes to the first record, then to the second
head_is : reached heads area (98 ∷ 97 ∷ []) 0 ≡ 1
unfolding heads reached bucket_of wrapping_sum
head_is = refl

next-is : reached heads area (98 ∷ 97 ∷ []) 1 ≡ 2
unfolding heads area reached next link_at link_of bucket_of wrapping_sum digit_of key_of hash_of mixed word_of mix_in
next-is = refl

end_is : reached heads area (98 ∷ 97 ∷ []) 2 ≡ 0
unfolding heads area reached next link_at link_of bucket_of wrapping_sum digit_of key_of hash_of mixed word_of mix_in
end_is = refl

finds_older : lookup abba (97 ∷ 98 ∷ []) two ≡ Some 5
unfolding abba two lookup same_bytes stretch
finds_older = refl

finds_newer : lookup abba (98 ∷ 97 ∷ []) two ≡ Some 7
unfolding abba two lookup same_bytes stretch
finds_newer = refl

-- ---- equal prefixes, a name of the whole text

prefixes : List Entry
prefixes = record { start = 0; len = 4; wire = 9 } ∷ record { start = 0; len = 1; wire = 7 } ∷ record { start = 0; len = 2; wire = 5 } ∷ []

finds_prefix : lookup abba (97 ∷ 98 ∷ []) prefixes ≡ Some 5
unfolding abba prefixes lookup same_bytes stretch
finds_prefix = refl

finds_whole : lookup abba abba prefixes ≡ Some 9
unfolding abba prefixes lookup same_bytes stretch
finds_whole = refl

finds_none : lookup abba (97 ∷ 98 ∷ 98 ∷ []) prefixes ≡ None
unfolding abba prefixes lookup same_bytes stretch
finds_none = refl

-- ---- empty stretches, wherever they stand, are one name

empty_bucket : bucket_of (stretch abba 3 0) ≡ 0
unfolding abba stretch bucket_of wrapping_sum
empty_bucket = refl

finds_empty : lookup abba (stretch abba 3 0) (record { start = 1; len = 0; wire = 5 } ∷ []) ≡ Some 5
unfolding abba lookup same_bytes stretch
finds_empty = refl

-- ---- no names

finds_nothing : lookup abba abba [] ≡ None
unfolding abba lookup
finds_nothing = refl
