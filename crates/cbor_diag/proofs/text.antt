pub mod MemberParts
pub mod TextsAlike
