-- Where bytes are not JSON.
pub mod NoJson
-- What a JSON value asks for.
pub mod Sheets
