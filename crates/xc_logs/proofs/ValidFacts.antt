-- What valid logs tell of their headers, records and sizes.
use Rattle.std.proofs.Common.{◌≡◌, ◌≤◌, ◌^◌, true, List, length, arith}
use Rattle.std.specs.Prelude.{sum_by}
use Rattle.std.specs.List.{list_all}
use Rattle.std.proofs.lemmas.Bool.{and_parts, leb-true}
use Rattle.std.proofs.lemmas.List.{length-map}
use Rattle.xc_record.specs.declared.record.Logs.{Logs}
use Rattle.xc_record.specs.declared.record.Header.{Header}
use Rattle.xc_record.specs.declared.record.Tablet.{Tablet}
use Rattle.xc_record.specs.Headers.{are_headers, headers_fit}
use Rattle.xc_record.specs.Valid.{is_valid, headers_of, tablet_fits}

-- at most 64 headers, which fit
pub headers_parts : (hs : List Header) → are_headers hs ≡ true → (length hs ≤ 64) × (headers_fit hs ≡ true)
unfolding are_headers
headers_parts hs e = let parts = and_parts _ _ e in (leb-true _ _ parts.0, parts.1)

pub record IsWellFormed (logs : Logs) : Type 0 where
  pub headers : are_headers (headers_of logs.tablets) ≡ true
  pub fit : headers_fit (headers_of logs.tablets) ≡ true
  pub tablets : list_all (tablet_fits (headers_of logs.tablets)) logs.tablets ≡ true
  pub few : length logs.tablets ≤ 64
  pub records : sum_by (λ t. length t.records) logs.tablets ≤ 2 ^ 20

pub valid_parts : (logs : Logs) → is_valid logs ≡ true → IsWellFormed logs
unfolding is_valid
valid_parts logs e =
    let headers = and_parts _ _ e in
    let fit = headers_parts (headers_of logs.tablets) headers.0 in
    let tablets = and_parts _ _ headers.1 in
    let records = and_parts _ _ tablets.1 in
    record {
      headers = headers.0;
      fit = fit.1;
      tablets = tablets.0;
      few = let count = length-map logs.tablets (λ (t : Tablet). t.header) in omega (arith, fit.0, count);
      records = leb-true _ _ records.0;
    }
