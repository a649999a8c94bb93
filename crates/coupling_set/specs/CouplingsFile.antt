-- A couplings file: the couplings of 1 to 256 disorder samples on one lattice, as bytes; and what bytes say that are such a
-- file, or the first reason to refuse them. Numbers are big-endian and unsigned.
use Rattle.std.specs.Prelude.{◌≡◌, ℕ, ◌+◌, ◌-◌, ◌*◌, ◌/◌, ◌%◌, ◌≤◌, ◌==◌, ◌&&◌, nat_le, nat_lt, if◌then◌else◌, List, ◌++◌, length, take, codes, slice_index, Option, Some, None, Result}
use Rattle.std.specs.Str.{bytes_eq}
use Rattle.byteorder.specs.Endian.{big_bytes}
use Rattle.sha2.specs.Sha256.{sha256}
use Rattle.glass_edges.specs.Numbers.{number_at}
use Rattle.glass_edges.specs.Refusals.{or_else, unless}
use Rattle.glass_edges.specs.Sealed.{body_of, digest_of}
use Rattle.spin_model.specs.Couplings.{Bonds, plus}
use Rattle.spin_model.specs.Lattice.{bond_count, IsLawfulSize}
use Rattle.spin_model.specs.Limits.{most_samples}
use Rattle.spin_model.specs.Steps.{table}
use Rattle.spin_model.specs.Words.{is_set}
use Rattle.coupling_set.specs.BondsAsWords.{word_of, couplings_with, bank_of}
use Rattle.coupling_set.specs.CouplingWords.{CouplingsView, bonds_of}
use Rattle.coupling_set.specs.declared.refused.CouplingsRefused.{CouplingsRefused}
use Rattle.coupling_set.specs.declared.refused.CouplingsRefused.TheVariants as refused

-- ---- the bytes of a file

-- what a file begins with
abbrev pub magic : List ℕ
magic = codes "GLASSCJ1"

-- the bytes of one sample: eight bonds a byte
abbrev pub sample_bytes : ℕ → ℕ
sample_bytes l = bond_count l / 8

-- byte k of a sample: bonds 8k to 8k + 7, the first of them in the highest bit, which is set where J is -1
abbrev pub coupling_byte : Bonds → ℕ → ℕ
coupling_byte bonds k = word_of (λ i. bonds (8 * k + (7 - i))) 8

-- the bytes of n samples, sample 0 first
unfoldable pub coupling_bytes : ℕ → ℕ → (ℕ → Bonds) → List ℕ
coupling_bytes l n bonds = table (λ k. coupling_byte (bonds (k / sample_bytes l)) (k % sample_bytes l)) (n * sample_bytes l)

-- all before the digest: what a file begins with, the side of the lattice, the number of samples, their bytes
abbrev pub body_with : ℕ → ℕ → List ℕ → List ℕ
body_with l n stored = magic ++ (big_bytes 4 l ++ (big_bytes 4 n ++ stored))

-- and the digest at the end: SHA-256 of all bytes before
unfoldable pub file_with : ℕ → ℕ → List ℕ → List ℕ
file_with l n stored = body_with l n stored ++ sha256 (body_with l n stored)

-- the file of n samples
abbrev pub file_bytes : ℕ → ℕ → (ℕ → Bonds) → List ℕ
file_bytes l n bonds = file_with l n (coupling_bytes l n bonds)

-- its length
abbrev pub file_length : ℕ → ℕ → ℕ
file_length l n = 48 + n * sample_bytes l

-- the file of the first n samples of couplings
abbrev pub written : CouplingsView → ℕ → List ℕ
written couplings n = file_bytes couplings.size n (bonds_of couplings)

-- ---- what bytes say

abbrev pub size_in : List ℕ → ℕ
size_in bytes = number_at 4 8 bytes

abbrev pub samples_in : List ℕ → ℕ
samples_in bytes = number_at 4 12 bytes

-- byte k of a sample, and 0 where the file hasn't the sample
unfoldable pub byte_at : ℕ → List ℕ → ℕ → ℕ → ℕ
byte_at l bytes b k = if nat_lt b (samples_in bytes) then slice_index bytes (16 + b * sample_bytes l + k) else 0

-- the couplings of each sample: by the bits of the file, and +1 where it hasn't the sample
abbrev pub of_file : ℕ → List ℕ → ℕ → Bonds
of_file l bytes b n = is_set (byte_at l bytes b (n / 8)) (7 - n % 8)

-- ---- the first refusal

-- lack of memory is no refusal of bytes
abbrev pub IsNamed : CouplingsRefused → Type 0
IsNamed e = ¬ (e ≡ refused.NoMemory)

-- fewer bytes than a file without couplings has
unfoldable pub short : List ℕ → Option CouplingsRefused
short bytes = if nat_lt (length bytes) 48 then Some (refused.Short (length bytes)) else None

-- another beginning
unfoldable pub other_kind : List ℕ → Option CouplingsRefused
other_kind bytes = if bytes_eq (take 8 bytes) magic then None else Some refused.Magic

-- another side than the lattice's
unfoldable pub other_size : ℕ → List ℕ → Option CouplingsRefused
other_size l bytes = if size_in bytes == l then None else Some (refused.Size (size_in bytes))

-- no sample, or more than 256
unfoldable pub other_samples : List ℕ → Option CouplingsRefused
other_samples bytes =
    if nat_le 1 (samples_in bytes) && nat_le (samples_in bytes) most_samples then None else Some (refused.Samples (samples_in bytes))

-- another length than so many samples have
unfoldable pub other_length : ℕ → List ℕ → Option CouplingsRefused
other_length l bytes =
    if length bytes == file_length l (samples_in bytes) then None
    else Some (refused.Length (length bytes) (file_length l (samples_in bytes)))

-- another digest than that of the bytes before
unfoldable pub damaged : List ℕ → Option CouplingsRefused
damaged bytes =
    if bytes_eq (digest_of bytes) (sha256 (body_of bytes)) then None
    else Some (refused.Digest (digest_of bytes) (sha256 (body_of bytes)))

-- the tests in their order
unfoldable pub file_refusal : ℕ → List ℕ → Option CouplingsRefused
file_refusal l bytes =
    or_else (short bytes) (or_else (other_kind bytes) (or_else (other_size l bytes)
    (or_else (other_samples bytes) (or_else (other_length l bytes) (damaged bytes)))))

-- the couplings of a bank of 64 samples that the bytes say, or their first refusal
unfoldable pub couplings_in : ℕ → ℕ → List ℕ → Result CouplingsView CouplingsRefused
couplings_in l bank bytes = unless (file_refusal l bytes) (couplings_with l (bank_of bank (of_file l bytes)))

-- ---- lawful files

-- the bytes are the file of so many samples, 1 to 256, with these couplings on a lattice of this side; other samples are
-- the ferromagnet's
pub record IsFileOf (l n : ℕ) (bonds : ℕ → Bonds) (bytes : List ℕ) : Type 0 where
  pub lawful : IsLawfulSize l
  pub some : 1 ≤ n
  pub few : n ≤ most_samples
  pub same : bytes ≡ file_bytes l n bonds
  pub others : (b m : ℕ) → n ≤ b → bonds b m ≡ plus b m
