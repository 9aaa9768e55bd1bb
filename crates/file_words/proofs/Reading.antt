-- The word of a chunk of eight bytes is the definition's, and words past those that are lent are left out. Assumes nothing.
use Rattle.std.proofs.Common.{◌≡◌, ℕ, zero, suc, ◌+◌, ◌*◌, ◌<◌, ◌≤◌, List, [], refl, sym, ap, ◌∙◌, length, take, drop, get_or, min, ◌-◌, length-set, lit<, add-zero, add-suc, arith}
use Rattle.std.proofs.lemmas.List.{get_or-take, get_or-drop}
use Rattle.std.specs.Int.{from_le_bytes, w64}
use Rattle.std.specs.Simd.{first_chunks}
use lib.Seq.{drop-drop, set_out}
use Rattle.file_words.specs.Words.{value_from, word_at, words_read}

-- chunk i of n
chunk : (n i : ℕ) (l : List ℕ) → i < n → get_or (first_chunks 8 n l) i [] ≡ take 8 (drop (8 * i) l)
chunk zero i l h = absurd (omega arith)
chunk (suc n) zero l h = refl
chunk (suc n) (suc i) l h =
    let place : 8 + 8 * i ≡ 8 * suc i = omega arith in
    chunk n i (drop 8 l) (omega arith) ∙ ap (take 8) (drop-drop (8 * i) 8 l ∙ ap (λ k. drop k l) place)

-- the bytes from a place on, each by its distance from it
value_after : ℕ → List ℕ → ℕ → ℕ → ℕ
value_after zero l k j = 0
value_after (suc n) l k j = get_or l (k + j) 0 + 256 * value_after n l k (suc j)

after : (n : ℕ) (l : List ℕ) (k j : ℕ) → value_from n l (k + j) ≡ value_after n l k j
unfolding value_after
after zero l k j = refl
after (suc n) l k j = let e : k + j + 1 ≡ k + suc j = omega arith in rw e (ap (λ v. get_or l (k + j) 0 + 256 * v) (after n l k (suc j)))

word : (l : List ℕ) (k : ℕ) → from_le_bytes w64 (take 8 (drop k l)) ≡ value_from 8 l k
unfolding value_after
word l k =
    let byte = λ (j : ℕ) (h : j < 8). get_or-take 8 (drop k l) j 0 h ∙ get_or-drop k l j 0 in
    let value : value_from 8 l k ≡ value_after 8 l k 0 = ap (value_from 8 l) (sym (add-zero k)) ∙ after 8 l k 0 in
    rw (
      byte 0 (lit< tt),
      byte 1 (lit< tt),
      byte 2 (lit< tt),
      byte 3 (lit< tt),
      byte 4 (lit< tt),
      byte 5 (lit< tt),
      byte 6 (lit< tt),
      byte 7 (lit< tt),
      value,
    )
    (omega arith)

-- the word of a chunk
pub chunk_word : (n i : ℕ) (l : List ℕ) → i < n → from_le_bytes w64 (get_or (first_chunks 8 n l) i []) ≡ word_at l i
chunk_word n i l h = rw (chunk n i l h) (word l (8 * i))

same_length : (n : ℕ) (bytes words : List ℕ) → length (words_read n bytes words) ≡ length words
same_length zero bytes words = refl
same_length (suc n) bytes words = length-set _ n _ ∙ same_length n bytes words

-- a word that has no place
past : (n d : ℕ) (bytes words : List ℕ) → (0 < d → length words ≤ n) → words_read (n + d) bytes words ≡ words_read n bytes words
past n zero bytes words h = rw add-zero
past n (suc d) bytes words h =
    let full = h (omega arith) in
    let out : length (words_read (n + d) bytes words) ≤ n + d = rw (same_length (n + d) bytes words) (omega arith) in
    rw add-suc (set_out _ (n + d) _ out ∙ past n d bytes words (λ k. full))

pub ends : (i count : ℕ) (bytes words : List ℕ) → i ≡ min (length words) count → words_read i bytes words ≡ words_read count bytes words
ends i count bytes words e =
    let all : i + (count - i) ≡ count = omega arith in
    sym (past i (count - i) bytes words (λ (k : 0 < count - i). omega arith)) ∙ ap (λ k. words_read k bytes words) all
