-- Files that were read, and their limits.
use Rattle.std.proofs.Common.{◌≡◌, ◌⊎◌, ℕ, ◌+◌, ◌<◌, ◌≤◌, List, ◌++◌, length, Option, None, Some, IfSome, Bool, true, false, inl, inr, refl, sym, ap, ◌∙◌, arith}
use Rattle.std.specs.Prelude.{nat_lt, if◌then◌else◌, codes}
use Rattle.std.proofs.lemmas.Bool.{cases_lt}
use Rattle.std.proofs.lemmas.Bool.Decides.{nat_tests}
use Rattle.std.specs.Str.{is_utf8}
use Rattle.serde_json.specs.Read.{read}
use Rattle.std.proofs.lemmas.List.{append-nil, length-append}
use Rattle.std.specs.Io.KnownBytes.{Consumes, IsAtEnd}
use Rattle.model_run.specs.declared.agents.AgentsKind.TheVariants as kind
use Rattle.model_run.specs.declared.site.Site.{Site}
use Rattle.model_run.specs.AgentsFile.{agents_file, Means, Refused as BadFile, of_json}
use Rattle.build_commands.specs.Files.{agents_limit, ReadWhole}
use Rattle.build_commands.specs.Inputs.{Input}

-- a bound that is not passed
pub not_past : (n m : ℕ) → (n < m → ⊥) → m ≤ n
not_past n m within = elim (cases_lt n m) [ inl past ↦ absurd (within past) | inr le ↦ le ]

-- a file past its limit is refused for that
pub long_file : (a : List ℕ) → agents_limit < length a → agents_file a ≡ BadFile (codes ".") kind.TooLong
long_file a long = one (nat_lt agents_limit (length a)) refl
  where
    one : (b : Bool) → nat_lt agents_limit (length a) ≡ b → agents_file a ≡ BadFile (codes ".") kind.TooLong
    one true e = ap (λ (b : Bool). if b then BadFile (codes ".") kind.TooLong else (if is_utf8 a then of_json (read a) else BadFile (codes ".") kind.NotJson)) e
    one false e = absurd (grind (arith, nat_tests))

pub site_fits : (a : List ℕ) (site : Site) → agents_file a ≡ Means site → length a ≤ agents_limit
site_fits a site means = not_past agents_limit (length a) (λ long. let bad : Means site ≡ BadFile (codes ".") kind.TooLong = sym means ∙ long_file a long in cc)

-- A source that was read up to one byte more than its limit was read to its end, or what it had left is too long.
pub record Left (limit : ℕ) (left : Option (List ℕ)) (bytes : List ℕ) : Type 0 where
  pub all : List ℕ
  pub told : IfSome left (λ told. told ≡ all)
  pub same : (all ≡ bytes) ⊎ ((limit < length bytes) × (limit < length all))

pub left_of : (limit : ℕ) (input : Input) (bytes : List ℕ) → ReadWhole limit input bytes → Left limit input.left bytes
left_of limit input bytes r = one input.left input.rest r.read r.whole
  where
    one : (left rest : Option (List ℕ)) → Consumes left rest bytes → (length bytes ≤ limit → IsAtEnd rest) → Left limit left bytes
    one None rest read end = record { all = bytes; told = tt; same = inl refl }
    one (Some all) None read end = absurd read
    one (Some all) (Some more) read end =
        let size : length all ≡ length bytes + length more = ap length read ∙ length-append bytes more in
        elim (cases_lt limit (length bytes)) as (λ _. Left limit (Some all) bytes) [
          | inl long ↦ record { all = all; told = refl; same = inr (long, omega (arith, long, size)) }
          | inr fits ↦ record { all = bytes; told = read ∙ ap (λ xs. bytes ++ xs) (end fits) ∙ append-nil bytes; same = inl refl }
        ]
