-- What the walk over the gates finds.
use Rattle.std.proofs.Common.{false, zero, Option, None, Some, ◌≡◌, ◌≢◌, ◌<◌, ◌≤◌, ℕ, suc, ◌+◌, ◌-◌, ◌^◌, List, [], ◌∷◌, ◌++◌, length, min, get_or, take, drop, refl, sym, ◌∙◌, ap, subst, arith, append_assoc, length-append, length-take, length-drop, take-append-drop}
use Rattle.std.proofs.lemmas.List.{drop-drop, drop_more, drop_at, take_at, take_all, get_or-take, get_or-drop}
use Rattle.std.proofs.Math.Seq.{drop-append-add, take-add, take-append-add}
use Rattle.std.specs.Prelude.{slice_get}
use Rattle.byteorder.specs.Numbers.{length-bytes_high_first}
use Rattle.byteorder.specs.Endian.{big_bytes, big_number}
use Rattle.journal_core.specs.Records.{records, framed, Has}
use Rattle.journal_core.specs.State.{Stores}
use Rattle.jp_disk.specs.Images.{IsOnlyImage}
use Rattle.jp_disk.specs.Reading.{HasRead}
use Rattle.journal_core.specs.Answers.{entries_of, StandInTurn}
use Rattle.journal_core.specs.Finding.{ReadTo, Splits}
use Rattle.journal_core.specs.declared.record.Record.{Record}
use Rattle.journal_core.proofs.RecordLemmas.{length-frame, framed-push, Fit-push, damaged, has_framed}
use Rattle.jp_disk.specs.View.{DiskView}

pub entries-push : (at : ℕ) (ps : List (List ℕ)) (p : List ℕ) → entries_of at (ps ++ p ∷ []) ≡ entries_of at ps ++ record { at = at + length (framed ps); len = length p } ∷ []
entries-push at [] p = let same : at ≡ at + 0 = omega arith in ap (λ (n : ℕ). record { at = n; len = length p } ∷ []) same
entries-push at (q ∷ ps) p =
    let same : at + 5 + length q + length (framed ps) ≡ at + length (framed (q ∷ ps)) = omega (arith, length-frame q (framed ps)) in
    ap (λ (l : List Record). record { at = at; len = length q } ∷ l) (entries-push (at + 5 + length q) ps p ∙ ap (λ (n : ℕ). entries_of (at + 5 + length q) ps ++ record { at = n; len = length p } ∷ []) same)

-- a record behind those that end with a gate
pub in_turn_push : (at : ℕ) (entries : List Record) (mid : ℕ) (e : Record) (len : ℕ) → StandInTurn at entries mid → mid ≡ e.at + 1 → len ≡ e.at + 5 + e.len + 1 → StandInTurn at (entries ++ e ∷ []) len
in_turn_push at [] mid e len turn is next = (omega (arith, turn, is), omega (arith, turn, is, next))
in_turn_push at (x ∷ entries) mid e len turn is next = (turn.0, in_turn_push (at + 5 + x.len) entries mid e len turn.1 is next)

module _ (file : List ℕ) (at : ℕ) (ps : List (List ℕ)) (inside : at < length file) (so_far : ReadTo file at ps) where
  split : drop at file ≡ get_or file at 0 ∷ drop (at + 1) file
  split = drop_more file at 0 inside

  -- the gate is closed
  pub gate_closed : get_or file at 0 ≢ 1 → Splits file at ps
  gate_closed shut = record {
    gate = get_or file at 0;
    rest = drop (at + 1) file;
    closed = shut;
    is = so_far.is ∙ ap (λ (l : List ℕ). framed ps ++ l) split;
    stands = so_far.stands;
    fit = so_far.fit;
  }

  -- the record does not end in the file
  pub record_cut : get_or file at 0 ≡ 1 → 6 ≤ length file → length (drop (at + 1) file) ≤ 4 + big_number 4 (drop (at + 1) file) → records file ≡ record { payloads = ps; is_whole = false }
  record_cut is long short =
      damaged file ps (drop (at + 1) file) long (so_far.is ∙ ap (λ (l : List ℕ). framed ps ++ l) (split ∙ ap (λ (g : ℕ). g ∷ drop (at + 1) file) is)) so_far.fit short

  -- the record does
  pub payload_read : ℕ → List ℕ
  payload_read len = take len (drop (at + 5) file)

  pub length-payload_read : (len : ℕ) → at + 5 + len < length file → length (payload_read len) ≡ len
  unfolding payload_read
  length-payload_read len room = omega (arith, length-take len (drop (at + 5) file), length-drop (at + 5) file)

  pub record_read : (len : ℕ) → get_or file at 0 ≡ 1 → big_bytes 4 len ≡ take 4 (drop (at + 1) file) → at + 5 + len < length file → len < 2 ^ 32 → ReadTo file (at + (5 + len)) (ps ++ payload_read len ∷ [])
  unfolding payload_read
  record_read len is spelled room short =
      let p = payload_read len in
      let size = length-payload_read len room in
      let rest = drop (at + (5 + len)) file in
      let behind : drop (at + 5) file ≡ p ++ rest =
      sym (take-append-drop len (drop (at + 5) file)) ∙ ap (λ (l : List ℕ). p ++ l) (drop-drop len (at + 5) file ∙ ap (λ (n : ℕ). drop n file) (let e : at + 5 + len ≡ at + (5 + len) = omega arith in e)) in
      let four : drop (at + 1) file ≡ big_bytes 4 (length p) ++ (p ++ rest) =
      sym (take-append-drop 4 (drop (at + 1) file)) ∙ (λ i. spelled_back i ++ (drop-drop 4 (at + 1) file ∙ ap (λ (n : ℕ). drop n file) (let e : at + 1 + 4 ≡ at + 5 = omega arith in e) ∙ behind) i) in
      record {
        is =
            so_far.is ∙ ap (λ (l : List ℕ). framed ps ++ l) (split ∙ ap (λ (g : ℕ). g ∷ drop (at + 1) file) is ∙ ap (λ (l : List ℕ). 1 ∷ l) (four ∙ sym (append_assoc (big_bytes 4 (length p)) p rest)))
            ∙ sym (framed-push ps p rest);
        stands = omega (arith, so_far.stands, size, ap length (framed-push ps p []), length-append (framed (ps ++ p ∷ [])) [], length-append (framed ps) ((1 ∷ big_bytes 4 (length p)) ++ p ++ []), length-frame p []);
        fit = Fit-push ps p so_far.fit (omega (arith, size, short));
      }
    where
      spelled_back : take 4 (drop (at + 1) file) ≡ big_bytes 4 (length (payload_read len))
      spelled_back = sym spelled ∙ ap (λ (n : ℕ). big_bytes 4 n) (sym (length-payload_read len room))

pub length-entries : (at : ℕ) (ps : List (List ℕ)) → length (entries_of at ps) ≡ length ps
length-entries at [] = refl
length-entries at (p ∷ ps) = ap suc (length-entries (at + 5 + length p) ps)

pub splits_has : (file : List ℕ) (at : ℕ) (ps : List (List ℕ)) → Splits file at ps → Has ps file
splits_has file at ps s = ap records s.is ∙ has_framed ps s.gate s.rest s.closed s.fit

-- a disk with this file, all of it durable
pub stores_at : {D : Type 0} (disk : DiskView D) (d : D) (file : List ℕ) (at len : ℕ) (ps : List (List ℕ)) → len ≡ at + 1 → disk.reads d ≡ Some file → IsOnlyImage file (disk.may_leave d) → Splits file at ps
    → Stores disk d len ps
stores_at disk d file at len ps next told only s = record {
  gate = s.gate;
  rest = s.rest;
  closed = s.closed;
  told = told ∙ ap (λ (l : List ℕ). Some l) s.is;
  ends = omega (arith, next, s.stands);
  fit = s.fit;
  durable = subst (λ (f : List ℕ). IsOnlyImage f (disk.may_leave d)) s.is only;
}

-- a file that begins with a closed gate
pub first_closed : (file : List ℕ) → 0 < length file → get_or file 0 0 ≢ 1 → Splits file 0 []
first_closed file some shut = record {
  gate = get_or file 0 0;
  rest = drop 1 file;
  closed = shut;
  is = drop_more file 0 0 some;
  stands = refl;
  fit = tt;
}

abbrev or_else : Record → Option Record → Record
or_else e None = e
or_else e (Some x) = x

-- where a record's payload_read stands
pub payload_at : (ps : List (List ℕ)) (k at : ℕ) (rest : List ℕ) (e : Record) → slice_get (entries_of at ps) k ≡ Some e → (d : ℕ) × (e.at ≡ at + d) × (slice_get ps k ≡ Some (take e.len (drop (d + 5) (framed ps ++ rest))))
payload_at [] k at rest e is = absurd (cc is)
payload_at (p ∷ ps) zero at rest e is =
    let same : record { at = at; len = length p } ≡ e = ap (λ (o : Option Record). or_else e o) is in
    let front = 1 ∷ big_bytes 4 (length p) in
    let five : 5 ≡ length front = omega (arith, length-bytes_high_first 4 (length p)) in
    let all : framed (p ∷ ps) ++ rest ≡ front ++ (p ++ (framed ps ++ rest)) = append_assoc (front ++ p) (framed ps) rest ∙ append_assoc front p (framed ps ++ rest) in
    let behind : drop 5 (framed (p ∷ ps) ++ rest) ≡ p ++ (framed ps ++ rest) = ap (λ (l : List ℕ). drop 5 l) all ∙ drop_at front (p ++ (framed ps ++ rest)) 5 (sym five) in
    let is_len : length p ≡ e.len = ap (λ (r : Record). r.len) same in
    (0, sym (ap (λ (r : Record). r.at) same) ∙ omega arith, ap (λ (l : List ℕ). Some l) (sym (take_at p (framed ps ++ rest) e.len is_len) ∙ ap (λ (l : List ℕ). take e.len l) (sym behind)))
payload_at (p ∷ ps) (suc k) at rest e is =
    let h = payload_at ps k (at + 5 + length p) rest e is in
    let front = (1 ∷ big_bytes 4 (length p)) ++ p in
    let size : length front ≡ 5 + length p = omega (arith, length-append (1 ∷ big_bytes 4 (length p)) p, length-bytes_high_first 4 (length p)) in
    let all : framed (p ∷ ps) ++ rest ≡ front ++ (framed ps ++ rest) = append_assoc front (framed ps) rest in
    let n : 5 + length p + h.0 + 5 ≡ length front + (h.0 + 5) = omega (arith, size) in
    let same : drop (5 + length p + h.0 + 5) (framed (p ∷ ps) ++ rest) ≡ drop (h.0 + 5) (framed ps ++ rest) =
    ap (λ (m : ℕ). drop m (framed (p ∷ ps) ++ rest)) n ∙ ap (λ (l : List ℕ). drop (length front + (h.0 + 5)) l) all ∙ drop-append-add front (framed ps ++ rest) (h.0 + 5) in
    (5 + length p + h.0, h.1 ∙ omega arith, h.2 ∙ ap (λ (l : List ℕ). Some (take e.len l)) (sym same))

-- a part of a buffer filled, and then the next part
pub filled_more : (file buf part new : List ℕ) (at done n : ℕ) → done ≤ length buf → take done buf ≡ take done (drop at file) → HasRead file (at + done) n (drop done buf) part → length part ≡ length buf - done → n ≤ length buf - done → new ≡ take done buf ++ part → take (done + n) new ≡ take (done + n) (drop at file)
filled_more file buf part new at done n le so_far read size room is =
    let first = take done buf in
    let first_size : done ≡ length first = omega (arith, length-take done buf, le) in
    let more = drop (at + done) file in
    let parts : length part ≡ length (take n more) + (length buf - done - n) = omega (arith, ap length read, length-append (take n more) (drop n (drop done buf)), length-drop n (drop done buf), length-drop done buf) in
    let whole : length (take n more) ≡ n = omega (arith, parts, size, room) in
    let second : take n part ≡ take n more = ap (λ (l : List ℕ). take n l) read ∙ take_at (take n more) (drop n (drop done buf)) n whole in
    ap (λ (l : List ℕ). take (done + n) l) is ∙ ap (λ (m : ℕ). take (m + n) (first ++ part)) first_size ∙ take-append-add first part n
    ∙ ap (λ (l : List ℕ). l ++ take n part) so_far ∙ ap (λ (l : List ℕ). take done (drop at file) ++ l) (second ∙ ap (λ (l : List ℕ). take n l) (sym (drop-drop done at file)))
    ∙ sym (take-add done n (drop at file))

-- what the bytes of a head say, of which there are five, or as many as the file has from this place on
pub record HeadBytes (file : List ℕ) (at : ℕ) (head : List ℕ) : Type 0 where
  pub inside : at < length file
  pub gate : get_or head 0 0 ≡ get_or file at 0
  pub size : 6 ≤ length file - at → take (length head - 1) (drop 1 head) ≡ take 4 (drop (at + 1) file)

abbrev pub zeros : List ℕ
zeros = 0 ∷ 0 ∷ 0 ∷ 0 ∷ 0 ∷ []

pub head_bytes : (file head : List ℕ) (at end n : ℕ) → end ≡ length file → at < end → n ≡ min (end - at) 5 → head ≡ take (length (take n zeros)) (drop at file) → HeadBytes file at head
head_bytes file head at end n end_is within n_is is =
    let inside : at < length file = omega (arith, end_is) in
    let many : length (take n zeros) ≡ n = omega (arith, n_is, length-take n zeros) in
    let begins : head ≡ take n (drop at file) = is ∙ ap (λ (m : ℕ). take m (drop at file)) many in
    let some : 0 < n = omega (arith, n_is) in
    let same : at + 0 ≡ at = omega arith in
    record {
      inside = inside;
      gate = ap (λ (l : List ℕ). get_or l 0 0) begins ∙ get_or-take n (drop at file) 0 0 some ∙ get_or-drop at file 0 0 ∙ ap (λ (m : ℕ). get_or file m 0) same;
      size = λ long.
          let five : n ≡ 5 = omega (arith, n_is, end_is, long) in
          let rest : drop 1 head ≡ take 4 (drop (at + 1) file) = ap (λ (l : List ℕ). drop 1 l) (begins ∙ ap (λ (m : ℕ). take m (drop at file)) five ∙ ap (λ (l : List ℕ). take 5 l) (drop_more file at 0 inside)) in
          take_all (length head - 1) (drop 1 head) (omega (arith, length-drop 1 head)) ∙ rest;
    }

-- the first byte of a file
pub first_byte : (file byte : List ℕ) → byte ≡ take 1 (drop 0 file) → get_or byte 0 0 ≡ get_or file 0 0
first_byte file byte is = ap (λ (l : List ℕ). get_or l 0 0) is ∙ get_or-take 1 (drop 0 file) 0 0 (omega arith)
