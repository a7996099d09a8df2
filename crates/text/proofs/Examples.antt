-- Worked examples of the definitions, by computation.
-- Assumes nothing.
use mathlib.Core.Path.{◌≡◌, refl}
use mathlib.Core.Bool.{true, false}
use mathlib.Core.List.{[], ◌∷◌}
use mathlib.Core.Option.{none, some}
use Rattle.laws.specs.Stretches.{stretch, run, same_bytes}
use Rattle.text.specs.Bytes.{is_ascii, upper, is_named}
use Rattle.text.specs.Blanks.{is_blank, trim_start, trim_end, trim, trimmed}
use Rattle.text.specs.Words.{words, split_whitespace}
use Rattle.text.specs.Lines.{raw_lines, places, lines, uncommented, kept, kept_of, kept_lines}
use Rattle.text.specs.Joining.{continued, all_but_last, part, gather, joined_from, logical_lines, ended, joined_text}
use Rattle.text.specs.Numbers.{all_digits, value_from, digits_from, digits, parse_usize, parse_each, parse_usize_words}

-- ---- joined lines

-- comments and empty lines are skipped inside a continuation
joined_skipped : joined_text (97 ∷ 32 ∷ 92 ∷ 10 ∷ 32 ∷ 32 ∷ 35 ∷ 32 ∷ 99 ∷ 10 ∷ 98 ∷ 92 ∷ 32 ∷ 10 ∷ 10 ∷ 120 ∷ 35 ∷ 121 ∷ []) ≡ 97 ∷ 32 ∷ 98 ∷ 32 ∷ 120 ∷ 10 ∷ []
unfolding is_blank trim_start trim_end trim raw_lines uncommented kept kept_of kept_lines continued all_but_last part gather joined_from logical_lines ended joined_text
joined_skipped = refl

-- a lone backslash gathers nothing, or adds a space; what is gathered at the end of the text is a line, here with a blank at its end
joined_lone : joined_text (92 ∷ 10 ∷ 97 ∷ 92 ∷ 10 ∷ 92 ∷ []) ≡ 97 ∷ 32 ∷ 10 ∷ []
unfolding is_blank trim_start trim_end trim raw_lines uncommented kept kept_of kept_lines continued all_but_last part gather joined_from logical_lines ended joined_text
joined_lone = refl

-- one final backslash of two is removed
joined-one_removed : joined_text (97 ∷ 92 ∷ 92 ∷ 10 ∷ 98 ∷ []) ≡ 97 ∷ 92 ∷ 32 ∷ 98 ∷ 10 ∷ []
unfolding is_blank trim_start trim_end trim raw_lines uncommented kept kept_of kept_lines continued all_but_last part gather joined_from logical_lines ended joined_text
joined-one_removed = refl

-- a backslash before the first `#` is final, one after it is not
joined-before_hash : joined_text (97 ∷ 92 ∷ 35 ∷ 10 ∷ 98 ∷ 35 ∷ 92 ∷ 10 ∷ 99 ∷ []) ≡ 97 ∷ 32 ∷ 98 ∷ 10 ∷ 99 ∷ 10 ∷ []
unfolding is_blank trim_start trim_end trim raw_lines uncommented kept kept_of kept_lines continued all_but_last part gather joined_from logical_lines ended joined_text
joined-before_hash = refl

-- bytes 9 to 13 and 32 are blanks, 8 and 14 are not
joined_blanks : joined_text (9 ∷ 11 ∷ 12 ∷ 13 ∷ 32 ∷ 97 ∷ 32 ∷ 13 ∷ 10 ∷ 8 ∷ 14 ∷ []) ≡ 97 ∷ 10 ∷ 8 ∷ 14 ∷ 10 ∷ []
unfolding is_blank trim_start trim_end trim raw_lines uncommented kept kept_of kept_lines continued all_but_last part gather joined_from logical_lines ended joined_text
joined_blanks = refl

-- blanks and comments alone give nothing
joined-nothing : joined_text (32 ∷ 10 ∷ 35 ∷ 97 ∷ 10 ∷ 9 ∷ []) ≡ []
unfolding is_blank trim_start trim_end trim raw_lines uncommented kept kept_of kept_lines continued all_but_last part gather joined_from logical_lines ended joined_text
joined-nothing = refl

joined-empty : joined_text ([]) ≡ []
unfolding is_blank trim_start trim_end trim raw_lines uncommented kept kept_of kept_lines continued all_but_last part gather joined_from logical_lines ended joined_text
joined-empty = refl

-- the same lines without continuation
kept_skipped : kept_lines (97 ∷ 32 ∷ 92 ∷ 10 ∷ 32 ∷ 32 ∷ 35 ∷ 32 ∷ 99 ∷ 10 ∷ 98 ∷ 92 ∷ 32 ∷ 10 ∷ 10 ∷ 120 ∷ 35 ∷ 121 ∷ []) ≡ (97 ∷ 32 ∷ 92 ∷ []) ∷ (98 ∷ 92 ∷ []) ∷ (120 ∷ []) ∷ []
unfolding is_blank trim_start trim_end trim raw_lines uncommented kept kept_of kept_lines
kept_skipped = refl

-- the places of the lines of a joined text
lines-places : lines 0 (97 ∷ 10 ∷ 98 ∷ 99 ∷ 10 ∷ []) ≡ record { start = 0; len = 1 } ∷ record { start = 2; len = 2 } ∷ []
unfolding raw_lines places lines
lines-places = refl

-- ---- words

words-places : words 4 (32 ∷ 97 ∷ 9 ∷ 32 ∷ 98 ∷ 99 ∷ []) ≡ record { start = 5; len = 1 } ∷ record { start = 8; len = 2 } ∷ []
unfolding is_blank words
words-places = refl

words_bytes : split_whitespace (32 ∷ 97 ∷ 9 ∷ 32 ∷ 98 ∷ 99 ∷ []) ≡ (97 ∷ []) ∷ (98 ∷ 99 ∷ []) ∷ []
unfolding is_blank words split_whitespace stretch
words_bytes = refl

no_words : words 0 (32 ∷ 9 ∷ []) ≡ []
unfolding is_blank words
no_words = refl

trimmed-place : trimmed (120 ∷ 32 ∷ 98 ∷ 99 ∷ 32 ∷ 120 ∷ []) (record { start = 1; len = 4 }) ≡ record { start = 2; len = 2 }
unfolding is_blank trim_start trim_end trim trimmed run stretch
trimmed-place = refl

any_case : is_named (120 ∷ 78 ∷ 111 ∷ 114 ∷ []) (88 ∷ 78 ∷ 79 ∷ 82 ∷ []) ≡ true
unfolding upper same_bytes
any_case = refl

other_bytes : is_named (120 ∷ 96 ∷ 111 ∷ 114 ∷ []) (88 ∷ 64 ∷ 79 ∷ 82 ∷ []) ≡ false
unfolding upper same_bytes
other_bytes = refl

ascii_last : is_ascii (127 ∷ []) ≡ true
unfolding is_ascii
ascii_last = refl

ascii_past : is_ascii (35 ∷ 128 ∷ []) ≡ false
unfolding is_ascii
ascii_past = refl

-- ---- numbers

number_plus : parse_usize (43 ∷ 53 ∷ []) ≡ some 5
unfolding all_digits value_from digits_from digits parse_usize
number_plus = refl

number_plus_alone : parse_usize (43 ∷ []) ≡ none
unfolding all_digits value_from digits_from digits parse_usize
number_plus_alone = refl

number_minus : parse_usize (45 ∷ 48 ∷ []) ≡ none
unfolding all_digits value_from digits_from digits parse_usize
number_minus = refl

number_two_plus : parse_usize (43 ∷ 43 ∷ 53 ∷ []) ≡ none
unfolding all_digits value_from digits_from digits parse_usize
number_two_plus = refl

number_no_digits : parse_usize [] ≡ none
unfolding all_digits value_from digits_from digits parse_usize
number_no_digits = refl

number_greatest : parse_usize (49 ∷ 56 ∷ 52 ∷ 52 ∷ 54 ∷ 55 ∷ 52 ∷ 52 ∷ 48 ∷ 55 ∷ 51 ∷ 55 ∷ 48 ∷ 57 ∷ 53 ∷ 53 ∷ 49 ∷ 54 ∷ 49 ∷ 53 ∷ []) ≡ some 18446744073709551615
unfolding all_digits value_from digits_from digits parse_usize
number_greatest = refl

number_too_great : parse_usize (49 ∷ 56 ∷ 52 ∷ 52 ∷ 54 ∷ 55 ∷ 52 ∷ 52 ∷ 48 ∷ 55 ∷ 51 ∷ 55 ∷ 48 ∷ 57 ∷ 53 ∷ 53 ∷ 49 ∷ 54 ∷ 49 ∷ 54 ∷ []) ≡ none
unfolding all_digits value_from digits_from digits parse_usize
number_too_great = refl

number_leading_zeros : parse_usize (48 ∷ 48 ∷ 55 ∷ []) ≡ some 7
unfolding all_digits value_from digits_from digits parse_usize
number_leading_zeros = refl

number_long_zeros : parse_usize (48 ∷ 48 ∷ 48 ∷ 48 ∷ 48 ∷ 48 ∷ 48 ∷ 48 ∷ 48 ∷ 48 ∷ 48 ∷ 48 ∷ 48 ∷ 48 ∷ 48 ∷ 48 ∷ 48 ∷ 48 ∷ 48 ∷ 48 ∷ 48 ∷ 48 ∷ 48 ∷ 48 ∷ 48 ∷ 48 ∷ 48 ∷ 48 ∷ 48 ∷ 49 ∷ []) ≡ some 1
unfolding all_digits value_from digits_from digits parse_usize
number_long_zeros = refl

number_letter : parse_usize (49 ∷ 97 ∷ []) ≡ none
unfolding all_digits value_from digits_from digits parse_usize
number_letter = refl

numbers_line : parse_usize_words (32 ∷ 49 ∷ 32 ∷ 32 ∷ 43 ∷ 48 ∷ 50 ∷ 32 ∷ []) ≡ some (1 ∷ 2 ∷ [])
unfolding is_blank words split_whitespace stretch all_digits value_from digits_from digits parse_usize parse_each parse_usize_words
numbers_line = refl

numbers-none : parse_usize_words (49 ∷ 32 ∷ 120 ∷ []) ≡ none
unfolding is_blank words split_whitespace stretch all_digits value_from digits_from digits parse_usize parse_each parse_usize_words
numbers-none = refl
