-- The name table: the entries that the records of the name area hold, and the chains that lead to them.
-- Assumes nothing.
use Rattle.std.specs.Prelude.{◌≡◌, ℕ, zero, suc, ◌+◌, ◌-◌, ◌*◌, ◌/◌, ◌%◌, ◌^◌, ◌<◌, ◌≤◌, if◌then◌else◌, ltb, List, [], ◌∷◌, length, ◌≢◌, slice_index, slice_set, None, Some, Ok, Err, Option, Result}
use Rattle.text.specs.Words.{bytes_of}
use Rattle.text.specs.declared.words.Word.{Word}
use Rattle.names.specs.Names.{Entry, name_of, lookup}
use Rattle.names.specs.declared.new_name.NewName.{NewName}
use Rattle.names.specs.declared.records.TheConstants.{NAME_WORDS, LINKS_AT, START_AT, WIRE_AT, HALF_BITS, HALF, DIGIT_BITS, LINKS, WORD_LINKS, KEY_DIGITS, BYTE_DIGITS}

-- a 32-bit wrapping sum of bytes, on top of s
unfoldable pub wrapping_sum : ℕ → List ℕ → ℕ
wrapping_sum s [] = s
wrapping_sum s (b ∷ bs) = wrapping_sum ((s + b) % 2 ^ 32) bs

-- the same of the four bytes of a number
unfoldable pub sum_in : ℕ → ℕ → ℕ
sum_in s w = wrapping_sum s (w % 256 ∷ w / 256 % 256 ∷ w / 65536 % 256 ∷ w / 16777216 ∷ [])

-- the bucket of a name: which of the 256 heads its search starts from
unfoldable pub bucket_of : List ℕ → ℕ
bucket_of bytes = wrapping_sum 0 bytes % 256

-- four bytes of a text as one number, the first the lowest
abbrev pub four_bytes : List ℕ → ℕ → ℕ
four_bytes t at = slice_index t at + slice_index t (at + 1) * 256 + slice_index t (at + 2) * 65536 + slice_index t (at + 3) * 16777216

-- bytes as one number, the first the lowest
unfoldable pub word_of : List ℕ → ℕ
word_of [] = 0
word_of (b ∷ bs) = b + word_of bs * 256

-- a 32-bit mix of a number into s
unfoldable pub mix_in : ℕ → ℕ → ℕ
mix_in s w = (s + w) * 1540483477 / 2048 % 2 ^ 32

-- of bytes, four at a time and what is left as one number
unfoldable pub mixed : ℕ → List ℕ → ℕ
mixed s [] = mix_in s 0
mixed s (a ∷ []) = mix_in s (word_of (a ∷ []))
mixed s (a ∷ b ∷ []) = mix_in s (word_of (a ∷ b ∷ []))
mixed s (a ∷ b ∷ c ∷ []) = mix_in s (word_of (a ∷ b ∷ c ∷ []))
mixed s (a ∷ b ∷ c ∷ d ∷ bs) = mixed (mix_in s (word_of (a ∷ b ∷ c ∷ d ∷ []))) bs

-- a second hash of a name: both halves of its mix, exchanged; the digits begin with the upper half of the mix, which is the lower one here, and the other half only
-- saves comparing bytes
unfoldable pub hash_of : List ℕ → ℕ
hash_of bytes = let m = mixed 0 bytes in m / 65536 + m % 65536 * 65536

-- the key of a name: in the lower half of a word its length, modulo 2^32, and in the upper half that hash
unfoldable pub key_of : List ℕ → ℕ
key_of bytes = length bytes % HALF + hash_of bytes * HALF

-- digit i of a number that has n digits, the highest first
abbrev pub digit_in : ℕ → ℕ → ℕ → ℕ
digit_in x n i = x / 2 ^ ((n - 1 - i) * DIGIT_BITS) % LINKS

-- digit d of a name: those of its key first (of the lower half of the hash, then of the length), then those of each byte in turn; the length stands before the
-- bytes, so that no name's digits are the start of another's
unfoldable pub digit_of : List ℕ → ℕ → ℕ
digit_of bytes d =
    if ltb d KEY_DIGITS then digit_in (key_of bytes) KEY_DIGITS d
    else digit_in (slice_index bytes ((d - KEY_DIGITS) / BYTE_DIGITS)) BYTE_DIGITS ((d - KEY_DIGITS) % BYTE_DIGITS)

-- ---- records: key; four links, each half a word; start; wire

-- record k: where its name stands, and its wire
unfoldable pub entry : List ℕ → ℕ → Entry
entry names k = record {
  start = slice_index names (k * NAME_WORDS + START_AT);
  len = slice_index names (k * NAME_WORDS) % HALF;
  wire = slice_index names (k * NAME_WORDS + WIRE_AT);
}

-- the first n records, the newest first
unfoldable pub entries : List ℕ → ℕ → List Entry
entries names zero = []
entries names (suc k) = entry names k ∷ entries names k

-- the name of record k
unfoldable pub name_at : List ℕ → List ℕ → ℕ → List ℕ
name_at text names k = name_of text (entry names k)

-- a link (0, or one more than a record's number) is half a word
unfoldable pub link_of : ℕ → ℕ → ℕ
link_of word place = word / 2 ^ (place * HALF_BITS) % HALF

-- where the word of the link stands that a digit chooses in the record at `base`
abbrev pub link_place : ℕ → ℕ → ℕ
link_place base digit = base + LINKS_AT + digit / WORD_LINKS

-- that link
unfoldable pub link_at : List ℕ → ℕ → ℕ → ℕ
link_at names base digit = link_of (slice_index names (link_place base digit)) (digit % WORD_LINKS)

-- ---- what hangs at the 256 heads: chained records, of which each links to one further record for every digit

-- the record that a digit's link leads to: a record goes by one more than its number, none by 0
unfoldable pub next : List ℕ → ℕ → ℕ → ℕ
next names zero digit = 0
next names (suc k) digit = link_at names (k * NAME_WORDS) digit

-- what a search for a name comes to after d links, each chosen by a digit of the name
unfoldable pub reached : List ℕ → List ℕ → List ℕ → ℕ → ℕ
reached heads names w zero = slice_index heads (bucket_of w)
reached heads names w (suc d) = next names (reached heads names w d) (digit_of w d)

-- two names are of one bucket and alike in their first d digits
abbrev pub Alike : List ℕ → List ℕ → ℕ → Type 0
Alike v w d = (bucket_of v ≡ bucket_of w) × ((i : ℕ) → i < d → digit_of v i ≡ digit_of w i)

-- no name stands in two records
abbrev pub Once : List ℕ → List ℕ → ℕ → Type 0
Once text names count = (j k : ℕ) → j < count → k < count → name_at text names j ≡ name_at text names k → j ≡ k

-- the table is in order: the text is short enough for its records, there are 256 heads, each name lies in the text, has its key in its record and stands in no
-- other, heads lead to records and links to later ones, the search for a record's name comes to the record, and whatever a search comes to is alike so far
pub record Table (text heads names : List ℕ) (count : ℕ) : Type 0 where
  pub sized : length text < HALF
  pub heads_sized : length heads ≡ 256
  pub room : count * NAME_WORDS ≤ length names
  pub inside : (k : ℕ) → k < count → slice_index names (k * NAME_WORDS + START_AT) + slice_index names (k * NAME_WORDS) % HALF ≤ length text
  pub keyed : (k : ℕ) → k < count → slice_index names (k * NAME_WORDS) ≡ key_of (name_at text names k)
  pub once : Once text names count
  pub head : (b j : ℕ) → b < 256 → slice_index heads b ≡ suc j → j < count
  pub link : (k x j : ℕ) → k < count → x < LINKS → link_at names (k * NAME_WORDS) x ≡ suc j → (k < j) × (j < count)
  pub there : (k : ℕ) → k < count → ∥ ((d : ℕ) × (reached heads names (name_at text names k) d ≡ suc k)) ∥₁
  pub alike : (w : List ℕ) (d k : ℕ) → reached heads names w d ≡ suc k → Alike (name_at text names k) w d

-- where a search ends: in front of it a head, or a record and one of its links
abbrev pub Behind : (ℕ → ℕ) → List ℕ → ℕ → ℕ → ℕ → Type 0
Behind at w last branch zero = (last ≡ 0) × (branch ≡ bucket_of w)
Behind at w last branch (suc d) = (at d ≡ last) × (last ≢ 0) × (branch ≡ digit_of w d)

-- the search for a name is at its end, behind link `branch` of record number `last` - 1; where `last` is 0, behind head `branch`
pub record EndsAt (heads names : List ℕ) (w : List ℕ) (last branch : ℕ) : Type 0 where
  pub depth : ℕ
  pub ended : reached heads names w depth ≡ 0
  pub behind : Behind (reached heads names w) w last branch depth

-- a name that no record has, and where the search for it ended
pub record IsNew (text heads names : List ℕ) (count : ℕ) (n : NewName) : Type 0 where
  pub inside : n.word.start + n.word.len ≤ length text
  pub unknown : lookup text (bytes_of text n.word) (entries names count) ≡ None
  pub key : n.key ≡ key_of (bytes_of text n.word)
  pub ends : EndsAt heads names (bytes_of text n.word) n.last n.branch

-- what a search for a word answers: the wire that is known for it; if none is, the word as a new name
abbrev pub SearchIs : Option ℕ → List ℕ → List ℕ → List ℕ → ℕ → Word → Result ℕ NewName → Type 0
SearchIs known text heads names count word (Ok wire) = known ≡ Some wire
SearchIs known text heads names count word (Err n) = (known ≡ None) × (n.word ≡ word) × IsNew text heads names count n

-- the heads after record number n - 1 was hung behind `last`: at its head, where no record is in front
unfoldable pub headed : List ℕ → ℕ → ℕ → ℕ → List ℕ
headed heads b zero n = slice_set heads b n
headed heads b (suc k) n = heads

-- the area after that: linked to from the record in front
unfoldable pub linked : List ℕ → ℕ → ℕ → ℕ → List ℕ
linked names zero digit n = names
linked names (suc k) digit n =
    let at = link_place (k * NAME_WORDS) digit in
    slice_set names at (slice_index names at + n * 2 ^ (digit % WORD_LINKS * HALF_BITS))

-- there is room for that
abbrev pub LinkFits : List ℕ → ℕ → ℕ → ℕ → Type 0
LinkFits names zero branch n = branch < 256
LinkFits names (suc k) digit n =
    let at = link_place (k * NAME_WORDS) digit in
    (at < length names) × (slice_index names at + n * 2 ^ (digit % WORD_LINKS * HALF_BITS) < 2 ^ 64)

-- the table is in order, and its entries are one more than those before
pub record Defined (text heads names : List ℕ) (count : ℕ) (e : Entry) (before : List Entry) : Type 0 where
  pub table : Table text heads names count
  pub list : entries names count ≡ e ∷ before
